use Rattle.std.proofs.Common.{◌≡◌, ℕ, ◌+◌, ◌≤◌, ◌++◌, List, drop, length, refl, ap, sym, subst, ◌∙◌, arith}
use Rattle.std.proofs.lemmas.List.{drop_all}
use Rattle.epic_text.specs.Report.{emission_bytes}
use Rattle.epic_app.specs.Noting.{Coming, coming}
use Rattle.epic_app.specs.Telling.{AreTold, pass_verdicts, passes_verdicts}
use Rattle.epic_app.proofs.JudgingLaws.{no_verdicts, verdicts_more}
use Rattle.epic_app.proofs.TellingLaws.{coming_more, line_end, line_more}
use Rattle.epic_app.proofs.judging.print_all.Goals as goal

pub loop-passed-init : goal.loop-passed-init
loop-passed-init c = (refl, c.requires.told)

pub print_verdicts-requires : goal.print_verdicts-requires
print_verdicts-requires c =
    let emissions = emission_bytes c.args.ledger.now.history.emissions in
    let ps = c.args.passes.now in
    let more = coming_more emissions c.loop-passed.next.now ps c.loop-passed.passed-index c.passed-item.result c.loop-passed-test.true c.passed-item.is in
    let told = (subst (AreTold c.args.topo.now) more c.loop-passed.invariant.1).0 in
    record { told = told.0; notable = told.1 }

pub loop-passed-preserved : goal.loop-passed-preserved
loop-passed-preserved c =
    let t = c.args.topo.now in
    let emissions = emission_bytes c.args.ledger.now.history.emissions in
    let ps = c.args.passes.now in
    let i = c.loop-passed.passed-index in
    let p = c.passed-item.result in
    let x : Coming = record { came = c.loop-passed.next.now; passed = p } in
    let more = coming_more emissions c.loop-passed.next.now ps i p c.loop-passed-test.true c.passed-item.is in
    let next : c.emission_bytes-next.result.now ≡ emissions p.emission = c.emission_bytes-next.ensures in
    let rest : List ℕ → List Coming = λ came. coming emissions came (drop (i + 1) ps) in (
      line_more _ _ _ _ _ c.in_ok-print_verdicts.ensures
          (ap (passes_verdicts t) more ∙ (verdicts_more t x (rest (emissions p.emission)) ∙ sym (ap (λ came. pass_verdicts t x ++ passes_verdicts t (rest came)) next)))
          ∙ c.loop-passed.invariant.0,
      subst (λ came. AreTold t (rest came)) (sym next) (subst (AreTold t) more c.loop-passed.invariant.1).1,
    )

pub returns : goal.returns
returns c =
    let t = c.args.topo.now in
    let emissions = emission_bytes c.args.ledger.now.history.emissions in
    let past : length c.args.passes.now ≤ c.loop-passed.passed-index = omega (arith, c.loop-passed-test.false) in
    line_end _ _ _ c.loop-passed.invariant.0
    (ap (λ ps. passes_verdicts t (coming emissions c.loop-passed.next.now ps)) (drop_all c.loop-passed.passed-index c.args.passes.now past) ∙ no_verdicts t)
