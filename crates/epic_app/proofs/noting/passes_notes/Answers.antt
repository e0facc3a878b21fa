use Rattle.std.proofs.Common.{◌≡◌, ℕ, ◌+◌, ◌++◌, ◌∷◌, [], ◌||◌, List, take, drop, refl, ap, sym, subst, ◌∙◌, append-nil, arith}
use Rattle.epic_ledger.specs.Facts.{facts_of}
use Rattle.epic_ledger.specs.History.{History}
use Rattle.epic_text.specs.Report.{emission_bytes}
use Rattle.epic_app.specs.Noting.{Coming, all_offered, coming, noted_along, some_alarms}
use Rattle.epic_app.specs.Policed.{ArePoliced, IsNotablePass}
use Rattle.epic_app.proofs.NotingLaws.{alarms-last, all_taken, noted-last, offered-last, one_taken, rest_left, this_holds}
use Rattle.epic_app.proofs.noting.passes_notes.Goals as goal

pub loop-passed-init : goal.loop-passed-init
unfolding noted_along some_alarms
loop-passed-init c = (
  refl,
  λ offers policed. (
    c.new-notes.ensures.items,
    subst (λ os. ArePoliced c.args.world.now.network c.args.show.now.police c.args.police.now os c.args.world.now.state.moment) (sym (append-nil offers)) policed,
  ),
  refl,
)

pub pass_notes-requires : goal.pass_notes-requires
pass_notes-requires c =
    let emissions = emission_bytes c.args.world.now.state.history.emissions in
    record {
      notable = this_holds emissions c.args.came.now c.loop-passed.next.now c.args.passes.now c.loop-passed.passed-index c.passed-item.result
          c.loop-passed-test.true c.passed-item.is c.loop-passed.invariant.0 (IsNotablePass c.args.world.now.network) c.requires.notable;
    }

pub loop-passed-preserved : goal.loop-passed-preserved
loop-passed-preserved c =
    let emissions = emission_bytes c.args.world.now.state.history.emissions in
    let t = c.args.world.now.network in
    let f = facts_of c.args.world.now.state.history in
    let moment = c.args.world.now.state.moment in
    let show = c.args.show.now in
    let number = c.args.number in
    let ps = c.args.passes.now in
    let i = c.loop-passed.passed-index in
    let pass = c.passed-item.result in
    let all = coming emissions c.args.came.now ps in
    let done = take i all in
    let x : Coming = record { came = c.loop-passed.next.now; passed = pass } in
    let (left, noted, alarm) = c.loop-passed.invariant in
    let taken = one_taken emissions c.args.came.now c.loop-passed.next.now ps i pass c.loop-passed-test.true c.passed-item.is left in
    let next : c.emission_bytes-next.result.now ≡ emissions pass.emission
    = c.emission_bytes-next.ensures ∙ ap (λ (h : History). emission_bytes h.emissions pass.emission) c.ledger-ledger.ensures.history in (
      subst (λ (bytes : List ℕ). coming emissions bytes (drop (i + 1) ps) ≡ drop (i + 1) all) (sym next)
          (rest_left emissions c.args.came.now c.loop-passed.next.now ps i pass c.loop-passed-test.true c.passed-item.is left),
      λ offers policed.
          let (items, then) = noted offers policed in
          let behind = offers ++ all_offered moment done in (
            c.in-Ok.ensures.items
                ∙ ((λ k. items k ++ c.in_ok-noted.ensures.notes behind then k ∷ [])
                ∙ sym (ap (noted_along show t f number moment offers) taken ∙ noted-last show t f number moment offers done x)),
            subst (λ os. ArePoliced t show.police c.pass_notes.new.police os moment) (sym (ap (λ xs. offers ++ all_offered moment xs) taken ∙ offered-last show t f number moment offers done x))
                (c.in_ok-noted.ensures.police behind then),
          ),
      (λ k. alarm k || c.in_ok-noted.ensures.alarm k)
          ∙ sym (ap (some_alarms show t f) taken ∙ alarms-last show t f number moment done x),
    )

pub returns-clause-notes : goal.returns-clause-notes
returns-clause-notes c = λ offers policed.
    let emissions = emission_bytes c.args.world.now.state.history.emissions in
    let taken = all_taken emissions c.args.came.now c.args.passes.now c.loop-passed.passed-index (omega (arith, c.loop-passed-test.false)) in
    (c.loop-passed.invariant.1 offers policed).0
    ∙ ap (noted_along c.args.show.now c.args.world.now.network (facts_of c.args.world.now.state.history) c.args.number c.args.world.now.state.moment offers) taken

pub returns-clause-alarm : goal.returns-clause-alarm
returns-clause-alarm c =
    let emissions = emission_bytes c.args.world.now.state.history.emissions in
    let taken = all_taken emissions c.args.came.now c.args.passes.now c.loop-passed.passed-index (omega (arith, c.loop-passed-test.false)) in
    c.loop-passed.invariant.2 ∙ ap (some_alarms c.args.show.now c.args.world.now.network (facts_of c.args.world.now.state.history)) taken

pub returns-clause-police : goal.returns-clause-police
returns-clause-police c = λ offers policed.
    let emissions = emission_bytes c.args.world.now.state.history.emissions in
    let taken = all_taken emissions c.args.came.now c.args.passes.now c.loop-passed.passed-index (omega (arith, c.loop-passed-test.false)) in
    subst (λ xs. ArePoliced c.args.world.now.network c.args.show.now.police c.loop-passed.police (offers ++ all_offered c.args.world.now.state.moment xs) c.args.world.now.state.moment) taken
    (c.loop-passed.invariant.1 offers policed).1
