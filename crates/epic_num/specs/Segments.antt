-- When hops in construction order make a segment.
use Rattle.std.specs.Prelude.{ℕ, ◌+◌, ◌-◌, ◌==◌, Bool, true, false, not, ◌&&◌, nat_le, List, [], ◌∷◌, length, map, Option, option_map, unwrap_or, slice_get}
use Rattle.std.specs.List.{list_any, list_all}
use Rattle.std.specs.Option.{option_map_or}
use Rattle.epic_num.specs.declared.name.AsId.{AsId}
use Rattle.epic_num.specs.declared.segment.SegHop.{SegHop}
use Rattle.epic_num.specs.declared.segment.Segment.{Segment}
use Rattle.epic_num.specs.Same.{same_as}

-- positions count up by one
unfoldable pub are_placed_from : ℕ → List SegHop → Bool
are_placed_from pos [] = true
are_placed_from pos (h ∷ hs) = h.body.pos == pos && are_placed_from (pos + 1) hs

unfoldable pub are_different : List AsId → Bool
are_different [] = true
are_different (a ∷ rest) = not (list_any (λ b. same_as a b) rest) && are_different rest

unfoldable pub first_hop : List SegHop → Option SegHop
first_hop hops = slice_get hops 0

unfoldable pub last_hop : List SegHop → Option SegHop
last_hop hops = slice_get hops (length hops - 1)

-- the first and the last AS, 0 where there are no hops
unfoldable pub first_as : List SegHop → AsId
first_as hops = unwrap_or (option_map (λ h. h.asn) (first_hop hops)) (record { 0 = 0 })

unfoldable pub last_as : List SegHop → AsId
last_as hops = unwrap_or (option_map (λ h. h.asn) (last_hop hops)) (record { 0 = 0 })

-- all hops have the first one's timestamp
unfoldable pub have_one_ts_path : List SegHop → Bool
have_one_ts_path hops = option_map_or (λ f. list_all (λ h. h.body.ts_path == f.body.ts_path) hops) (first_hop hops) true

-- nothing comes before the first hop, and nothing after the last
unfoldable pub are_closed : List SegHop → Bool
are_closed hops = option_map_or (λ h. h.body.inn == 0) (first_hop hops) false && option_map_or (λ h. h.body.out == 0) (last_hop hops) false

-- two hops at least, at positions 1, 2 and so on, of one timestamp and different ASes, closed at both ends
unfoldable pub is_well_formed : Segment → Bool
is_well_formed segment =
    let hops = segment.hops.items in
    nat_le 2 (length hops)
    && are_placed_from 1 hops
    && have_one_ts_path hops
    && are_different (map (λ h. h.asn) hops)
    && are_closed hops
