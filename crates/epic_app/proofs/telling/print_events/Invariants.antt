use Rattle.std.proofs.Common.{◌≡◌, ◌++◌}
use Rattle.epic_record.specs.LedgerText.{ledger_text}
use Rattle.epic_app.specs.Telling.{happened_between}
use Rattle.epic_app.proofs.telling.print_events.Given as goal

-- the lines so far, and those to come, are all
abbrev pub invariant-loop-number : goal.invariant-loop-number
invariant-loop-number l =
    l.to.items ++ ledger_text (happened_between l.ledger.history l.number l.until)
    ≡ l.initial.to.items ++ ledger_text (happened_between l.ledger.history l.from l.until)
