-- Private: serves proofs of this crate alone; no public contract cites it.
-- What the parts of the search for paths find.
use Rattle.std.specs.Prelude.{◌≡◌, ℕ, ◌+◌, ◌<◌, Bool, true, false, nat_le, List, [], ◌∷◌, ◌++◌, length, filter, filter_map, flat_map, Option, Some, None, Result, Ok, Err, option_and_then, if◌then◌else◌}
use Rattle.std.specs.Option.{option_map_or}
use Rattle.std.specs.Ordering.{nat_cmp}
use Rattle.std.specs.BTreeMap.{get}
use Rattle.epic_num.specs.declared.name.AsId.{AsId}
use Rattle.epic_num.specs.declared.segment.Segment.{Segment}
use Rattle.epic_num.specs.declared.path_ref.PathRef.{PathRef}
use Rattle.epic_num.specs.Same.{same_as}
use Rattle.epic_num.specs.Paths.{LegKind, UpLeg, CoreLeg, DownLeg, kind_of, end_of}
use Rattle.epic_path.specs.declared.links.Link.{Link}
use Rattle.epic_path.specs.declared.links.Links.{Links}
use Rattle.epic_path.specs.declared.paths_error.PathsError.{PathsError}
use Rattle.epic_path.specs.declared.paths_error.PathsError.TheVariants.{TooMany, OutOfMemory}
use Rattle.epic_path.specs.Joins.{leg_from}
use Rattle.epic_path.specs.Routes.{last_issue}

unfoldable pub is_up : LegKind → Bool
is_up UpLeg = true
is_up _ = false

unfoldable pub is_core : LegKind → Bool
is_core CoreLeg = true
is_core _ = false

unfoldable pub is_down : LegKind → Bool
is_down DownLeg = true
is_down _ = false

-- what a search keeps of a leg over a segment
unfoldable pub link_to : AsId → Segment → Link
link_to end segment = record { end = end; hops = length segment.hops.items; issue = last_issue segment }

-- the link over a segment for who stands at an AS, if the leg from there is of a kind
unfoldable pub link_from : (LegKind → Bool) → AsId → Segment → Option Link
link_from is_kind at segment =
    option_and_then (λ leg. if is_kind (kind_of leg.segment.kind leg.against) then Some (link_to (end_of leg) leg.segment) else None) (leg_from at segment)

unfoldable pub up_links : List Segment → AsId → List Link
up_links segments at = filter_map (link_from is_up at) segments

unfoldable pub core_links : List Segment → AsId → List Link
core_links segments at = filter_map (link_from is_core at) segments

-- the links that lead down from an AS to one where paths end
unfoldable pub last_links : AsId → List Segment → AsId → List Link
last_links to segments at = filter (λ l. same_as l.end to) (filter_map (link_from is_down at) segments)

-- the links that lead away from an AS
unfoldable pub links_at : Links → AsId → List Link
links_at links at = option_map_or (λ v. v.items) (get nat_cmp links.by_start at.0) []

unfoldable pub no_path : PathRef
no_path = record { issues = record { items = [] }; hops = 0 }

-- a path that goes on over a link, if it has at most 32 hops then
unfoldable pub extended : PathRef → Link → Option PathRef
extended path link =
    if nat_le (path.hops + link.hops) 32
    then Some (record { issues = record { items = path.issues.items ++ link.issue ∷ [] }; hops = path.hops + link.hops })
    else None

-- the paths that begin with one and go on over a link, where `rest` tells how they end
unfoldable pub onward : (PathRef → AsId → List PathRef) → PathRef → Link → List PathRef
onward rest path link = option_map_or (λ p. rest p link.end) (extended path link) []

-- a path that has come to an AS, if paths end there
unfoldable pub paths_ended : AsId → PathRef → AsId → List PathRef
paths_ended to path at = if same_as at to then path ∷ [] else []

-- the paths that go on from one that has come to an AS, and end there or over a link down from there
unfoldable pub paths_down : (AsId → List Link) → AsId → PathRef → AsId → List PathRef
paths_down downs to path at = paths_ended to path at ++ flat_map (onward (λ p end. p ∷ []) path) (downs at)

-- the same, where a core link may come before that
unfoldable pub paths_over_core : (AsId → List Link) → (AsId → List Link) → AsId → PathRef → AsId → List PathRef
paths_over_core cores downs to path at = paths_down downs to path at ++ flat_map (onward (paths_down downs to) path) (cores at)

-- the paths from an AS: of those links up that lead away from it, one may come before that
unfoldable pub paths_from : List Link → (AsId → List Link) → (AsId → List Link) → AsId → AsId → List PathRef
paths_from ups cores downs from to = paths_over_core cores downs to no_path from ++ flat_map (onward (paths_over_core cores downs to) no_path) ups

-- a part of the search for at most so many paths puts its own behind those found before, or finds that there are more
abbrev pub Finds : ℕ → List PathRef → List PathRef → List PathRef → Result (Unit {0}) PathsError → Type 0
Finds most old more new (Ok u) = new ≡ old ++ more
Finds most old more new (Err TooMany) = most < length (old ++ more)
Finds most old more new (Err OutOfMemory) = Unit {0}
