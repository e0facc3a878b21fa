use Rattle.std.proofs.Common.{◌≡◌, ◌+◌, drop}
use Rattle.epic_num.specs.Segments.{are_placed_from}
use Rattle.epic_path.proofs.conditions.are_placed.Given as goal

abbrev pub invariant-loop-index : goal.invariant-loop-index
invariant-loop-index l = are_placed_from (l.index + 1) (drop l.index l.hops) ≡ are_placed_from 1 l.hops
