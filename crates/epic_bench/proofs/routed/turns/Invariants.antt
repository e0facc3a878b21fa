use Rattle.epic_bench.proofs.Routing.{IsMet}
use Rattle.epic_bench.proofs.routed.turns.Given as goal

abbrev pub invariant-loop-i : goal.invariant-loop-i
invariant-loop-i l = IsMet l.topo l.initial.router.window.entries l.packets l.rounds l.i l.accepted l.router
