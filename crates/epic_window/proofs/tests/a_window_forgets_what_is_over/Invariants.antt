use Rattle.std.proofs.Common.{◌≡◌}
use Rattle.epic_window.proofs.tests.a_window_forgets_what_is_over.Given as goal

abbrev pub invariant-loop-i : goal.invariant-loop-i
invariant-loop-i g l = l.window.profile ≡ l.profile
