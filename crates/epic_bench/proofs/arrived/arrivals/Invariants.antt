use Rattle.epic_bench.proofs.Taking.{IsTaken}
use Rattle.epic_bench.proofs.arrived.arrivals.Given as goal

abbrev pub invariant-loop-i : goal.invariant-loop-i
invariant-loop-i l = IsTaken l.topo l.initial.dest.window.entries l.packets l.rounds l.i l.accepted l.dest
