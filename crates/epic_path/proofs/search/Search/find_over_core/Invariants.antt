use Rattle.std.proofs.Common.{◌≡◌, ◌++◌, ◌≤◌, length, take}
use Rattle.std.specs.Prelude.{flat_map}
use Rattle.epic_path.specs.Search.{paths_down, links_at, onward}
use Rattle.epic_path.proofs.search.Search.find_over_core.Given as goal

abbrev pub invariant-loop-core : goal.invariant-loop-core
invariant-loop-core l =
    (l.found.items ≡ l.fn.found.items ++ (paths_down (links_at l.self.downs) l.self.to l.path l.fn.at
    ++ flat_map (onward (paths_down (links_at l.self.downs) l.self.to) l.path) (take l.core-index l.core-items)))
    × (length l.found.items ≤ l.self.most)
