use Rattle.std.proofs.Common.{◌≡◌, ◌++◌}
use Rattle.epic_app.proofs.Emissions.{records_from}
use Rattle.epic_app.proofs.saving.records_text.Given as goal

-- the records so far, and those of the emissions to come, are all
abbrev pub invariant-loop-number : goal.invariant-loop-number
invariant-loop-number l =
    l.text.items ++ records_from l.fn.moment l.fn.ledger.history.emissions l.number ≡ records_from l.fn.moment l.fn.ledger.history.emissions l.fn.before
