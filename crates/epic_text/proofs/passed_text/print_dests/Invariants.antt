use Rattle.std.proofs.Common.{◌≡◌, take}
use Rattle.epic_text.specs.Report.{dest_lines}
use Rattle.epic_text.proofs.passed_text.print_dests.Given as goal

-- the lines so far
abbrev pub invariant-loop-verdict : goal.invariant-loop-verdict
invariant-loop-verdict l = l.lines.items ≡ dest_lines l.topo l.step l.packet (take l.verdict-index l.verdicts)
