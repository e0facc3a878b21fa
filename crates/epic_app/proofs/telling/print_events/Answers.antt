use Rattle.std.proofs.Common.{◌∙◌, sym, arith}
use Rattle.epic_app.proofs.TellingLaws.{happened_end, happened_more, happened_none, line_end, line_more}
use Rattle.epic_app.proofs.telling.print_events.Goals as goal

pub loop-number-preserved : goal.loop-number-preserved
loop-number-preserved c =
    line_more _ _ _ _ _ c.in_ok-print_event-in-Some.ensures.0
    (happened_more c.args.ledger.now.history c.loop-number.number c.args.until c.in-Some.event.now (omega arith) (sym c.in-Some.ensures))
    ∙ c.loop-number.invariant

pub returns-in-None : goal.returns-in-None
returns-in-None c =
    line_end _ _ _ c.loop-number.invariant (happened_none c.args.ledger.now.history c.loop-number.number c.args.until (sym c.in-None.ensures))

pub returns : goal.returns
returns c = line_end _ _ _ c.loop-number.invariant (happened_end c.args.ledger.now.history c.loop-number.number c.args.until (omega (arith, c.loop-number-test.false)))
