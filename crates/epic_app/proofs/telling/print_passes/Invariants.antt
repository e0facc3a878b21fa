use Rattle.std.proofs.Common.{◌≡◌, ◌++◌, drop}
use Rattle.epic_record.specs.LedgerText.{ledger_text}
use Rattle.epic_text.specs.Report.{emission_bytes}
use Rattle.epic_app.specs.Noting.{coming}
use Rattle.epic_app.specs.Telling.{AreWithin, told_from}
use Rattle.epic_app.proofs.telling.print_passes.Given as goal

-- the lines so far, and those of the passes to come, are all
abbrev pub invariant-loop-passed : goal.invariant-loop-passed
invariant-loop-passed l =
    let emissions = emission_bytes l.ledger.history.emissions in
    (l.to.items ++ ledger_text (told_from l.ledger.history l.mark (coming emissions l.next (drop l.passed-index l.passes)))
    ≡ l.initial.to.items ++ ledger_text (told_from l.ledger.history l.fn.from (coming emissions l.came l.passes)))
    × AreWithin l.ledger.history l.mark (coming emissions l.next (drop l.passed-index l.passes))
