use Rattle.std.proofs.Common.{◌≡◌, ◌+◌, drop}
use Rattle.epic_text.specs.Counts.{total}
use Rattle.epic_app.specs.StepLines.{count_all}
use Rattle.epic_app.proofs.run_report.count_each.Given as goal

-- the verdicts so far are counted
abbrev pub invariant-loop-verdict : goal.invariant-loop-verdict
invariant-loop-verdict l =
    (count_all l.counts (drop l.verdict-index l.verdicts) ≡ count_all l.initial.counts l.verdicts)
    × (total l.counts ≡ total l.initial.counts + l.verdict-index)
