use Rattle.std.proofs.Common.{◌≡◌, length, drop}
use Rattle.epic_path.specs.Joins.{walk}
use Rattle.epic_path.proofs.JoinLemmas.{continued}
use Rattle.epic_path.proofs.joining.walk.Given as goal

abbrev pub invariant-loop-index : goal.invariant-loop-index
invariant-loop-index l =
    (continued l.legs.items (walk l.at l.index (drop l.index l.segments)) ≡ walk l.fn.from 0 l.segments) × (length l.legs.items ≡ l.index)
