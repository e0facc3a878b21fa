use Rattle.std.proofs.Common.{◌≡◌, ◌++◌, ◌≤◌, length, take}
use Rattle.std.specs.Prelude.{flat_map}
use Rattle.epic_path.specs.Search.{paths_over_core, links_at, no_path, onward, up_links}
use Rattle.epic_path.proofs.search.Search.find_from.Given as goal

abbrev pub invariant-loop-segment : goal.invariant-loop-segment
invariant-loop-segment l =
    (l.found.items ≡ l.fn.found.items ++ (paths_over_core (links_at l.self.cores) (links_at l.self.downs) l.self.to no_path l.from
    ++ flat_map (onward (paths_over_core (links_at l.self.cores) (links_at l.self.downs) l.self.to) no_path) (up_links (take l.segment-index l.segments) l.from)))
    × (length l.found.items ≤ l.self.most)
