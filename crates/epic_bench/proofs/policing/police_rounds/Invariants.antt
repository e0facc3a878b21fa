use Rattle.epic_bench.proofs.Charging.{IsPoliced}
use Rattle.epic_bench.proofs.policing.police_rounds.Given as goal

abbrev pub invariant-loop-i : goal.invariant-loop-i
invariant-loop-i l = IsPoliced l.i l.passed l.policer
