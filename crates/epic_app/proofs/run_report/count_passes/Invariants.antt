use Rattle.std.proofs.Common.{◌≡◌, ◌+◌, drop, flat_map, length}
use Rattle.epic_text.specs.Counts.{total}
use Rattle.epic_app.specs.StepLines.{count_all}
use Rattle.epic_app.proofs.run_report.count_passes.Given as goal

-- the verdicts of the passes so far are counted
abbrev pub invariant-loop-passed : goal.invariant-loop-passed
invariant-loop-passed l =
    let rest = flat_map (λ (p : _). p.verdicts.items) (drop l.passed-index l.passes) in
    let all = flat_map (λ (p : _). p.verdicts.items) l.passes in
    (count_all l.counts rest ≡ count_all l.initial.counts all)
    × (total l.counts + length rest ≡ total l.initial.counts + length all)
