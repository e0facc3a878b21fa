use Rattle.std.proofs.Common.{◌≡◌}
use Rattle.epic_router.proofs.tests.a_router_takes_the_present_generation_and_the_one_before_it.Given as goal

abbrev pub invariant-loop-changes : goal.invariant-loop-changes
invariant-loop-changes g l = l.router.window.profile ≡ l.topo-inside.profile
