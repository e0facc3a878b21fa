use Rattle.std.proofs.Common.{◌∙◌, sym, arith}
use Rattle.epic_app.proofs.TellingLaws.{emitted_end, emitted_more, emitted_none, line_end, line_more}
use Rattle.epic_app.proofs.telling.print_emissions.Goals as goal

pub loop-number-preserved : goal.loop-number-preserved
loop-number-preserved c =
    line_more _ _ _ _ _ c.in_ok-print_emission-in-Some.ensures.0
    (emitted_more c.args.ledger.now.history c.loop-number.number c.args.until (record { place = c.in-Some.place; bytes = c.in-Some.bytes.now }) (omega arith) (sym c.in-Some.ensures))
    ∙ c.loop-number.invariant

pub returns-in-None : goal.returns-in-None
returns-in-None c =
    line_end _ _ _ c.loop-number.invariant (emitted_none c.args.ledger.now.history c.loop-number.number c.args.until (sym c.in-None.ensures))

pub returns : goal.returns
returns c = line_end _ _ _ c.loop-number.invariant (emitted_end c.args.ledger.now.history c.loop-number.number c.args.until (omega (arith, c.loop-number-test.false)))
