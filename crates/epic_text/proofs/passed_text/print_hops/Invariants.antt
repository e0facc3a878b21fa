use Rattle.std.proofs.Common.{◌≡◌, ◌++◌, drop}
use Rattle.epic_text.specs.Report.{hop_lines}
use Rattle.epic_text.proofs.passed_text.print_hops.Given as goal

-- the lines so far and those of the verdicts that are left are all
abbrev pub invariant-loop-i : goal.invariant-loop-i
invariant-loop-i l =
    l.initial.to.items ++ hop_lines l.topo l.step l.packet l.notes 0 l.verdicts
    ≡ l.to.items ++ hop_lines l.topo l.step l.packet l.notes l.i (drop l.i l.verdicts)
