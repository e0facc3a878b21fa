use Rattle.std.proofs.Common.{◌≡◌, length}
use Rattle.epic_pool.proofs.tests.remove_fifths.Given as goal

abbrev pub invariant-loop-node : goal.invariant-loop-node
invariant-loop-node g l = (length l.pool.a ≡ 3) × (length l.pool.b ≡ 3)
