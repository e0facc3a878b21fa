-- All lawful paths between two ASes.
use Rattle.std.specs.Prelude.{◌≡◌, All, Contains, IsTrue, length, ℕ, zero, suc, Bool, false, not, ◌&&◌, List, [], ◌∷◌, map, filter, flat_map, Result, Ok, Err, if◌then◌else◌}
use Rattle.std.specs.declared.cmp.Ordering.{Ordering}
use Rattle.std.specs.declared.cmp.Ordering.TheVariants.{Less}
use Rattle.std.specs.Ordering.{nat_cmp, ordering_then, is_lt}
use Rattle.std.specs.Cmp.Lexicographic.{slice_cmp}
use Rattle.std.specs.List.{AllAdjacentBelow}
use Rattle.std.specs.Option.{option_map_or}
use Rattle.epic_num.specs.declared.name.AsId.{AsId}
use Rattle.epic_num.specs.declared.segment.Leg.{Leg}
use Rattle.epic_num.specs.declared.segment.Segment.{Segment}
use Rattle.epic_num.specs.declared.path_error.PathError.{PathError}
use Rattle.epic_num.specs.declared.path_ref.PathRef.{PathRef}
use Rattle.epic_num.specs.Same.{same_as}
use Rattle.epic_num.specs.Segments.{last_hop}
use Rattle.epic_num.specs.Paths.{path_end}
use Rattle.epic_path.specs.Joins.{hops_of, joined}

-- every list of at most so many of the segments
unfoldable pub lists_up_to : ℕ → List Segment → List (List Segment)
lists_up_to zero segments = [] ∷ []
lists_up_to (suc most) segments = [] ∷ flat_map (λ s. map (λ rest. s ∷ rest) (lists_up_to most segments)) segments

unfoldable pub ends_at : AsId → Result (List Leg) PathError → Bool
ends_at to (Ok legs) = same_as (path_end legs) to
ends_at to (Err e) = false

-- the segments in turn join to a path from one AS to another
unfoldable pub leads : AsId → AsId → List Segment → Bool
leads from to route = not (same_as from to) && ends_at to (joined from route)

-- the number of the issue that ended a segment
unfoldable pub last_issue : Segment → ℕ
last_issue segment = option_map_or (λ h. h.issue) (last_hop segment.hops.items) 0

-- a path over the segments in turn, by the last issue of each
unfoldable pub named : List Segment → PathRef
named route = record { issues = record { items = map last_issue route }; hops = hops_of route }

-- fewer hops come first, and then the lesser list of issues
abbrev pub path_cmp : PathRef → PathRef → Ordering
path_cmp p q = ordering_then (nat_cmp p.hops q.hops) (slice_cmp nat_cmp p.issues.items q.issues.items)

-- a path put into its place among paths in order
unfoldable pub placed : PathRef → List PathRef → List PathRef
placed p [] = p ∷ []
placed p (q ∷ qs) = if is_lt (path_cmp q p) then q ∷ placed p qs else p ∷ q ∷ qs

unfoldable pub in_order : List PathRef → List PathRef
in_order [] = []
in_order (p ∷ ps) = placed p (in_order ps)

-- each list of at most three of the segments that leads from one AS to another, by name and in order
unfoldable pub all_lawful : List Segment → AsId → AsId → List PathRef
all_lawful segments from to = in_order (map named (filter (leads from to) (lists_up_to 3 segments)))

-- a list of the segments that leads from one AS to another, and has this name
pub record IsPathOf (segments : List Segment) (from to : AsId) (path : PathRef) : Type 0 where
  pub route : List Segment
  pub over : All (Contains segments) route
  pub goes : IsTrue (leads from to route)
  pub name : named route ≡ path

-- the paths are those of every list of the segments that leads from one AS to another, each once, in order, and no other
pub record IsEveryPath (segments : List Segment) (from to : AsId) (paths : List PathRef) : Type 0 where
  pub every : (route : List Segment) → All (Contains segments) route → IsTrue (leads from to route) → Contains paths (named route)
  pub no_other : All (IsPathOf segments from to) paths
  pub ordered : AllAdjacentBelow (λ p q. path_cmp p q ≡ Less) paths (length paths)
