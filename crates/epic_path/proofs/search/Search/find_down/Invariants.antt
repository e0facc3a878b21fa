use Rattle.std.proofs.Common.{◌≡◌, [], ◌∷◌, ◌++◌, ◌≤◌, length, take}
use Rattle.std.specs.Prelude.{flat_map}
use Rattle.epic_path.specs.Search.{paths_ended, onward}
use Rattle.epic_path.proofs.search.Search.find_down.Given as goal

abbrev pub invariant-loop-down : goal.invariant-loop-down
invariant-loop-down l =
    (l.found.items ≡ l.fn.found.items ++ (paths_ended l.self.to l.path l.fn.at ++ flat_map (onward (λ p end. p ∷ []) l.path) (take l.down-index l.down-items)))
    × (length l.found.items ≤ l.self.most)
