use Rattle.std.proofs.Common.{◌≡◌, ◌+◌, ◌≤◌, ℕ, List, ◌++◌, count_by}
use Rattle.epic_ports.specs.Written.{Appends}
use Rattle.epic_app.specs.HopReport.{answers, is_accept, is_forged, lines_text}
use Rattle.epic_app.proofs.HopReportLemmas.{rest_of}
use Rattle.epic_app.proofs.hop_report.write_report.Given as goal

-- what was written, and the lines of the commands to come, are all lines; and so with the counts
abbrev pub invariant-loop-i : goal.invariant-loop-i
invariant-loop-i g l = record {
  written : (front : List ℕ) × Appends (g.O.Sink.written l.initial.out) (g.O.Sink.written l.out) front
      × (lines_text 1 (answers l.key l.commands) ≡ front ++ lines_text (l.i + 1) (rest_of l.key l.commands l.i));
  accepts : count_by is_accept (answers l.key l.commands) ≡ l.accepted + count_by is_accept (rest_of l.key l.commands l.i);
  forgeries : count_by is_forged (answers l.key l.commands) ≡ l.forged + count_by is_forged (rest_of l.key l.commands l.i);
  faults : g.O.Sink.faults l.initial.out ≤ g.O.Sink.faults l.out;
  few_accepts : l.accepted ≤ l.i;
  few_forgeries : l.forged ≤ l.i;
}
