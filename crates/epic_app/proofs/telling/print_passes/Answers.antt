use Rattle.std.proofs.Common.{◌≡◌, ℕ, ◌+◌, ◌≤◌, ◌++◌, ◌∷◌, List, drop, length, refl, ap, sym, subst, ◌∙◌, arith}
use Rattle.std.proofs.lemmas.List.{drop_all}
use Rattle.epic_record.specs.LedgerText.{ledger_text}
use Rattle.epic_text.specs.Report.{emission_bytes}
use Rattle.epic_app.specs.declared.telling.Mark.{Mark}
use Rattle.epic_app.specs.Noting.{Coming, coming}
use Rattle.epic_app.specs.Telling.{AreWithin, after_pass, told_by_pass, told_from}
use Rattle.epic_app.proofs.TellingLaws.{coming_more, line_end, line_more, no_passes, pass_more}
use Rattle.epic_app.proofs.telling.print_passes.Goals as goal

pub loop-passed-init : goal.loop-passed-init
loop-passed-init c = (refl, c.requires)

pub print_pass-requires : goal.print_pass-requires
print_pass-requires c =
    let emissions = emission_bytes c.args.ledger.now.history.emissions in
    let ps = c.args.passes.now in
    let i = c.loop-passed.passed-index in
    let more = coming_more emissions c.loop-passed.next.now ps i c.passed-item.result c.loop-passed-test.true c.passed-item.is in
    (subst (AreWithin c.args.ledger.now.history c.loop-passed.mark) more c.loop-passed.invariant.1).0

pub loop-passed-preserved : goal.loop-passed-preserved
loop-passed-preserved c =
    let h = c.args.ledger.now.history in
    let emissions = emission_bytes h.emissions in
    let ps = c.args.passes.now in
    let i = c.loop-passed.passed-index in
    let p = c.passed-item.result in
    let x : Coming = record { came = c.loop-passed.next.now; passed = p } in
    let m = c.loop-passed.mark in
    let more = coming_more emissions c.loop-passed.next.now ps i p c.loop-passed-test.true c.passed-item.is in
    let next : c.emission_bytes-next.result.now ≡ emissions p.emission = c.emission_bytes-next.ensures in
    let mark : c.in_ok-mark.mark ≡ after_pass m p = c.in_ok-mark.ensures.mark in
    let rest = λ (n : Mark) (came : List ℕ). told_from h n (coming emissions came (drop (i + 1) ps)) in
    let all : ledger_text (told_from h m (coming emissions c.loop-passed.next.now (drop i ps)))
    ≡ ledger_text (told_from h m (x ∷ coming emissions (emissions p.emission) (drop (i + 1) ps)))
    = ap (λ xs. ledger_text (told_from h m xs)) more in (
      line_more _ _ _ _ _ c.in_ok-mark.ensures.text
          (all ∙ (pass_more h m x (coming emissions (emissions p.emission) (drop (i + 1) ps)) ∙ sym (λ k. ledger_text (told_by_pass h m x) ++ ledger_text (rest (mark k) (next k)))))
          ∙ c.loop-passed.invariant.0,
      (let P : Mark → List ℕ → Type 0 = λ n came. AreWithin h n (coming emissions came (drop (i + 1) ps)) in
          subst (λ n. P n c.emission_bytes-next.result.now) (sym mark) (subst (P (after_pass m p)) (sym next)
          (subst (AreWithin h m) more c.loop-passed.invariant.1).1)),
    )

pub returns : goal.returns
returns c =
    let h = c.args.ledger.now.history in
    let emissions = emission_bytes h.emissions in
    let past : length c.args.passes.now ≤ c.loop-passed.passed-index = omega (arith, c.loop-passed-test.false) in
    line_end _ _ _ c.loop-passed.invariant.0
    (ap (λ ps. ledger_text (told_from h c.loop-passed.mark (coming emissions c.loop-passed.next.now ps))) (drop_all c.loop-passed.passed-index c.args.passes.now past)
    ∙ no_passes h c.loop-passed.mark)
