use Rattle.std.proofs.Common.{◌≤◌, length}
use Rattle.epic_record.specs.LedgerFile.{most_ledger}
use Rattle.epic_judge.specs.BothFiles.{Judging}
use Rattle.epic_judge.proofs.both_files.judge_lines.Given as goal

abbrev pub invariant-loop-rest : goal.invariant-loop-rest
invariant-loop-rest l = record {
  judging : Judging l.initial.index.network l.ledger l.verdicts l.rest l.progress l.index;
  short : length l.rest ≤ most_ledger;
}

abbrev pub decreases-loop-rest : goal.decreases-loop-rest
decreases-loop-rest l = length l.rest
