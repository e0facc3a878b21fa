use Rattle.std.proofs.Common.{◌≡◌}
use Rattle.epic_router.proofs.tests.a_router_remembers_what_it_accepted.Given as goal

abbrev pub invariant-loop-ts : goal.invariant-loop-ts
invariant-loop-ts g l = l.router.window.profile ≡ l.topo-inside.profile
