use Rattle.std.proofs.Common.{◌≡◌, ◌<◌, ◌++◌, List, length, ap, sym, subst, ◌∙◌, arith}
use Rattle.std.proofs.lemmas.Bool.Decides.{nat_tests}
use Rattle.epic_num.specs.declared.passed.Passed.{Passed}
use Rattle.epic_ledger.specs.History.{History}
use Rattle.epic_record.specs.LedgerText.{ledger_text}
use Rattle.epic_text.specs.Report.{bytes_in, emission_bytes}
use Rattle.epic_app.specs.Noting.{Coming, coming, passes_after, passes_told}
use Rattle.epic_app.specs.Telling.{AreWithin, between, mark_of, told_from}
use Rattle.epic_app.proofs.TellingLaws.{since_none, since_some}
use Rattle.epic_app.proofs.telling.ledger_lines.Goals as goal

pub print_passes-requires : goal.print_passes-requires
unfolding passes_after
print_passes-requires c =
    let s = c.args.world.now.state in
    let history = c.ledger-ledger.ensures.history in
    let came = c.bytes_in-came.ensures ∙ ap (λ (h : History). bytes_in (emission_bytes h.emissions) c.args.command.now) history in
    let same : coming (emission_bytes c.ledger-ledger.result.now.history.emissions) c.bytes_in-came.result.now c.passes_told-passes.result.now
    ≡ coming (emission_bytes s.history.emissions) (bytes_in (emission_bytes s.history.emissions) c.args.command.now) (passes_told c.args.answer.now)
    = λ k. coming (emission_bytes (history k).emissions) (came k) (c.passes_told-passes.ensures k) in
    subst (λ (h : History). AreWithin h c.args.before (coming (emission_bytes c.ledger-ledger.result.now.history.emissions) c.bytes_in-came.result.now c.passes_told-passes.result.now)) (sym history)
    (subst (λ (xs : List Coming). AreWithin s.history c.args.before xs) (sym same) c.requires)

pub returns-then-is_empty : goal.returns-then-is_empty
unfolding passes_after
returns-then-is_empty c =
    let s = c.args.world.now.state in
    let history = c.ledger-ledger.ensures.history in
    let em = emission_bytes s.history.emissions in
    let brought = bytes_in em c.args.command.now in
    let none : length (passes_told c.args.answer.now) ≡ 0
    = sym (ap length c.passes_told-passes.ensures) ∙ grind (arith, nat_tests, c.is_empty.ensures, c.if-is_empty.true) in
    let held : c.held.result ≡ mark_of s.history = c.held.ensures ∙ ap mark_of history in
    c.in_ok-print_between.ensures
    ∙ ((λ k. c.new-text.ensures.items k ++ ledger_text (between (history k) c.args.before (held k)))
    ∙ sym (ap ledger_text (since_none s.history c.args.before em brought (passes_told c.args.answer.now) none)))

pub returns : goal.returns
unfolding passes_after
returns c =
    let s = c.args.world.now.state in
    let history = c.ledger-ledger.ensures.history in
    let came = c.bytes_in-came.ensures ∙ ap (λ (h : History). bytes_in (emission_bytes h.emissions) c.args.command.now) history in
    let em = emission_bytes s.history.emissions in
    let brought = bytes_in em c.args.command.now in
    let many : 0 < length c.passes_told-passes.result.now = grind (arith, nat_tests, c.is_empty.ensures, c.if-is_empty.false) in
    let some : 0 < length (passes_told c.args.answer.now) = subst (λ (ps : List Passed). 0 < length ps) c.passes_told-passes.ensures many in
    c.in_ok-print_passes.ensures
    ∙ ((λ k. c.new-text.ensures.items k ++ ledger_text (told_from (history k) c.args.before (coming (emission_bytes (history k).emissions) (came k) (c.passes_told-passes.ensures k))))
    ∙ sym (ap ledger_text (since_some s.history c.args.before em brought (passes_told c.args.answer.now) some)))
