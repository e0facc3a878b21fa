use Rattle.std.proofs.Common.{◌≡◌}
use Rattle.epic_window.proofs.tests.offer_all.Given as goal

abbrev pub invariant-loop-i : goal.invariant-loop-i
invariant-loop-i g l = l.window.profile ≡ l.profile
