use Rattle.std.proofs.Common.{◌++◌, ap, sym, ◌∙◌, append_assoc}
use Rattle.epic_record.specs.LedgerText.{ledger_text}
use Rattle.epic_record.specs.Passing.{accepted_items}
use Rattle.epic_app.specs.Telling.{after_pass, between}
use Rattle.epic_app.proofs.TellingLaws.{text_both}
use Rattle.epic_app.proofs.telling.print_pass.Goals as goal

pub returns-clause-text : goal.returns-clause-text
returns-clause-text c =
    let p = c.args.passed.now in
    let h = c.args.ledger.now.history in
    let accepted = accepted_items p.place c.args.came.now p.result in
    let rest = between h c.args.from (after_pass c.args.from p) in
    c.in_ok-print_between.ensures
    ∙ ((λ k. c.in_ok-print_accepted.ensures.0 k ++ ledger_text (between h c.args.from (c.after_pass-until.ensures k)))
    ∙ (append_assoc c.args.to.now.items (ledger_text accepted) (ledger_text rest) ∙ ap (λ text. c.args.to.now.items ++ text) (sym (text_both accepted rest))))
