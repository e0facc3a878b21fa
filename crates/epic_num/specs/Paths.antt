-- When segments, each with a direction, make a lawful path.
use Rattle.std.specs.Prelude.{ℕ, ◌-◌, Bool, true, false, ◌&&◌, nat_le, List, [], ◌∷◌, length, map, reverse, sum_by, flat_map, option_map, unwrap_or, slice_get, if◌then◌else◌}
use Rattle.std.specs.List.{list_all}
use Rattle.epic_num.specs.declared.name.AsId.{AsId}
use Rattle.epic_num.specs.declared.segment.Leg.{Leg}
use Rattle.epic_num.specs.declared.segment.SegHop.{SegHop}
use Rattle.epic_num.specs.declared.segment.SegKind.{SegKind}
use Rattle.epic_num.specs.declared.segment.SegKind.TheVariants.{Core, Child}
use Rattle.epic_num.specs.Same.{same_as}
use Rattle.epic_num.specs.Segments.{first_as, last_as, is_well_formed}

-- where a leg begins and ends, as it is travelled
unfoldable pub start_of : Leg → AsId
start_of leg = if leg.against then last_as leg.segment.hops.items else first_as leg.segment.hops.items

unfoldable pub end_of : Leg → AsId
end_of leg = if leg.against then first_as leg.segment.hops.items else last_as leg.segment.hops.items

-- each leg begins where the one before it ends
unfoldable pub meets : Leg → List Leg → Bool
meets leg [] = true
meets leg (next ∷ legs) = same_as (end_of leg) (start_of next)

unfoldable pub are_joined : List Leg → Bool
are_joined [] = true
are_joined (leg ∷ legs) = meets leg legs && are_joined legs

-- a child segment leads down in construction direction and up against it; a core segment is travelled either way
pub data LegKind : Type 0 where
  UpLeg : LegKind
  CoreLeg : LegKind
  DownLeg : LegKind

unfoldable pub kind_of : SegKind → Bool → LegKind
kind_of Core against = CoreLeg
kind_of Child true = UpLeg
kind_of Child false = DownLeg

unfoldable pub are_lawful_kinds : List LegKind → Bool
are_lawful_kinds (UpLeg ∷ []) = true
are_lawful_kinds (CoreLeg ∷ []) = true
are_lawful_kinds (DownLeg ∷ []) = true
are_lawful_kinds (UpLeg ∷ CoreLeg ∷ []) = true
are_lawful_kinds (UpLeg ∷ DownLeg ∷ []) = true
are_lawful_kinds (CoreLeg ∷ DownLeg ∷ []) = true
are_lawful_kinds (UpLeg ∷ CoreLeg ∷ DownLeg ∷ []) = true
are_lawful_kinds _ = false

unfoldable pub hop_count : List Leg → ℕ
hop_count legs = sum_by (λ l. length l.segment.hops.items) legs

-- kinds that go together (one to three), well-formed segments of at most 16 hops that meet, and at most 32 hops
unfoldable pub is_lawful : List Leg → Bool
is_lawful legs =
    are_lawful_kinds (map (λ l. kind_of l.segment.kind l.against) legs)
    && list_all (λ l. is_well_formed l.segment && nat_le (length l.segment.hops.items) 16) legs
    && are_joined legs
    && nat_le (hop_count legs) 32

-- a leg's hops, and a path's, in travel order
unfoldable pub travelled : Leg → List SegHop
travelled leg = if leg.against then reverse leg.segment.hops.items else leg.segment.hops.items

unfoldable pub path_hops : List Leg → List SegHop
path_hops legs = flat_map travelled legs

-- the AS where a path begins, and the one where it ends; 0 where it has no legs
unfoldable pub path_start : List Leg → AsId
path_start legs = unwrap_or (option_map start_of (slice_get legs 0)) (record { 0 = 0 })

unfoldable pub path_end : List Leg → AsId
path_end legs = unwrap_or (option_map end_of (slice_get legs (length legs - 1))) (record { 0 = 0 })
