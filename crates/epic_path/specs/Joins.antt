-- How segments are joined to a path.
use Rattle.std.specs.Prelude.{◌≡◌, ℕ, ◌+◌, ◌≤◌, All, IsTrue, Bool, true, false, ◌&&◌, nat_le, List, [], ◌∷◌, length, map, sum_by, Option, Some, None, Result, Ok, Err, if◌then◌else◌}
use Rattle.std.specs.Option.{option_map_or}
use Rattle.std.specs.Result.{result_map_both}
use Rattle.epic_num.specs.declared.name.AsId.{AsId}
use Rattle.epic_num.specs.declared.segment.Leg.{Leg}
use Rattle.epic_num.specs.declared.segment.Segment.{Segment}
use Rattle.epic_num.specs.declared.path.Path.{Path}
use Rattle.epic_num.specs.declared.path_error.PathError.{PathError}
use Rattle.epic_num.specs.declared.path_error.PathError.TheVariants.{Empty, TooLong, Unjoined, WrongKind}
use Rattle.epic_num.specs.Same.{same_as}
use Rattle.epic_num.specs.Segments.{first_as, last_as, is_well_formed}
use Rattle.epic_num.specs.Paths.{end_of, kind_of, are_lawful_kinds, is_lawful, path_start}

-- the leg over a segment for who stands at an AS: in construction direction from its first AS, against it from its last
unfoldable pub leg_from : AsId → Segment → Option Leg
leg_from at segment =
    if same_as (first_as segment.hops.items) at then Some (record { segment = segment; against = false })
    else if same_as (last_as segment.hops.items) at then Some (record { segment = segment; against = true })
    else None

-- the legs of a walk from an AS over all the segments, or the first of them that has the AS reached at neither end; they
-- are counted from an index
unfoldable pub walk : AsId → ℕ → List Segment → Result (List Leg) PathError
walk at index [] = Ok []
walk at index (segment ∷ rest) =
    option_map_or (λ leg. result_map_both (λ legs. leg ∷ legs) (λ e. e) (walk (end_of leg) (index + 1) rest)) (leg_from at segment) (Err (Unjoined index))

unfoldable pub hops_of : List Segment → ℕ
hops_of segments = sum_by (λ s. length s.hops.items) segments

unfoldable pub are_short : List Segment → Bool
are_short segments = nat_le (length segments) 3 && nat_le (hops_of segments) 32

-- the kinds of a walk's legs have to go together
unfoldable pub of_lawful_kinds : Result (List Leg) PathError → Result (List Leg) PathError
of_lawful_kinds (Ok legs) = if are_lawful_kinds (map (λ l. kind_of l.segment.kind l.against) legs) then Ok legs else Err WrongKind
of_lawful_kinds (Err e) = Err e

-- the lawful path from an AS over the segments in turn, or the first of the refusals in their order
unfoldable pub joined : AsId → List Segment → Result (List Leg) PathError
joined from [] = Err Empty
joined from segments = if are_short segments then of_lawful_kinds (walk from 0 segments) else Err TooLong

-- what a call of `join` shows
unfoldable pub legs_of : Result Path PathError → Result (List Leg) PathError
legs_of result = result_map_both (λ p. p.legs.items) (λ e. e) result

-- the legs make a lawful path from an AS over the segments in turn
pub record IsJoined (from : AsId) (segments : List Segment) (legs : List Leg) : Type 0 where
  pub lawful : IsTrue (is_lawful legs)
  pub starts : path_start legs ≡ from
  pub over : map (λ l. l.segment) legs ≡ segments

-- to nothing else are segments joined that are well formed and have at most 16 hops
abbrev pub JoinsAreLawful : Type 0
JoinsAreLawful =
    (from : AsId) (segments : List Segment) (legs : List Leg)
    → All (λ s. IsTrue (is_well_formed s)) segments → All (λ s. length s.hops.items ≤ 16) segments
    → joined from segments ≡ Ok legs → IsJoined from segments legs
