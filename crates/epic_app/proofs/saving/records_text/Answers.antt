use Rattle.std.proofs.Common.{◌≡◌, ◌+◌, ◌<◌, ◌++◌, length, Some, ap, sym, ◌∙◌, append_assoc, arith}
use Rattle.epic_capture.specs.Saving.{saved_record}
use Rattle.epic_ledger.specs.History.{Emission, emission_at}
use Rattle.epic_app.specs.Saved.{as_captured}
use Rattle.epic_app.proofs.Emissions.{emission_missing, few_emitted, records_from, records_more}
use Rattle.epic_app.proofs.saving.records_text.Goals as goal

pub push_record-requires-clause-bytes : goal.push_record-requires-clause-bytes
push_record-requires-clause-bytes c =
    few_emitted c.args.ledger.now.history.emissions c.loop-number.number (record { place = c.in-Some.place; bytes = c.in-Some.bytes.now }) c.requires.packets (sym c.in-Some.ensures)

pub unreachable-requires : goal.unreachable-requires
unreachable-requires c =
    let es = c.args.ledger.now.history.emissions in
    let within : c.loop-number.number < length es = omega (arith, c.loop-number-test.true, c.emissions-number-end.ensures) in
    emission_missing es c.loop-number.number within (sym c.in-None.ensures)

pub loop-number-preserved : goal.loop-number-preserved
loop-number-preserved c =
    let es = c.args.ledger.now.history.emissions in
    let n = c.loop-number.number in
    let e : Emission = record { place = c.in-Some.place; bytes = c.in-Some.bytes.now } in
    let is : emission_at es (n + 1) ≡ Some e = sym c.in-Some.ensures in
    ap (λ items. items ++ records_from c.args.moment es (n + 1)) c.in_ok-push_record-in-Some.ensures
    ∙ (append_assoc c.loop-number.text.items (saved_record (as_captured c.args.moment e)) (records_from c.args.moment es (n + 1))
    ∙ (ap (λ rest. c.loop-number.text.items ++ rest) (sym (records_more c.args.moment es n e is)) ∙ c.loop-number.invariant))
