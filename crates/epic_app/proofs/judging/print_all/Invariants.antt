use Rattle.std.proofs.Common.{◌≡◌, ◌++◌, drop}
use Rattle.epic_text.specs.Report.{emission_bytes}
use Rattle.epic_app.specs.Noting.{coming}
use Rattle.epic_app.specs.Telling.{AreTold, passes_verdicts}
use Rattle.epic_app.proofs.judging.print_all.Given as goal

-- the lines so far, and those of the passes to come, are all
abbrev pub invariant-loop-passed : goal.invariant-loop-passed
invariant-loop-passed l =
    let emissions = emission_bytes l.ledger.history.emissions in
    (l.to.items ++ passes_verdicts l.topo (coming emissions l.next (drop l.passed-index l.passes))
    ≡ l.initial.to.items ++ passes_verdicts l.topo (coming emissions l.came l.passes))
    × AreTold l.topo (coming emissions l.next (drop l.passed-index l.passes))
