use Rattle.std.proofs.Common.{◌≡◌, length}
use Rattle.epic_pool.proofs.tests.fill.Given as goal

abbrev pub invariant-loop-i : goal.invariant-loop-i
invariant-loop-i l = (length l.pool.a ≡ 2) × (length l.pool.b ≡ 1)
