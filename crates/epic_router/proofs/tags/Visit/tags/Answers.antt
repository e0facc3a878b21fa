use Rattle.std.proofs.Common.{◌≡◌, ◌≢◌, ◌-◌, false, Some, ap, sym, subst, ◌∙◌}
use Rattle.std.specs.Prelude.{◌||◌}
use Rattle.epic_router.specs.Acceptance.{failing}
use Rattle.epic_router.specs.Candidates.{field_fits, tags_fit}
use Rattle.epic_router.specs.Passing.{IsUpdate}
use Rattle.epic_router.proofs.Tries.{present_right, present_alone, previous_right, neither_right, as_accepting}
use Rattle.epic_router.proofs.tags.Visit.tags.Goals as goal
use Rattle.epic_router.proofs.tags.Visit.tags.Goals.{After-fit-previous, then-present-2, else-present-2}

pub returns-then-present-clause-refusal : goal.returns-then-present-clause-refusal
returns-then-present-clause-refusal c = sym (present_right _ _ _ _ _ (sym c.fit-present.ensures.both ∙ c.if-present.true)).rows

pub returns-then-present-clause-accepted : goal.returns-then-present-clause-accepted
returns-then-present-clause-accepted c =
    as_accepting _ _ _ _ _ _ _ _ (present_right _ _ _ _ _ (sym c.fit-present.ensures.both ∙ c.if-present.true))
    c.generation-generation.ensures c.fit-present.ensures.update c.fit-present.ensures.width

pub returns-then-generation-eq0-clause-refusal : goal.returns-then-generation-eq0-clause-refusal
returns-then-generation-eq0-clause-refusal c =
    ap (λ check. Some (check, c.args.j)) (c.failing.ensures ∙ ap failing c.fit-present.ensures.field)
    ∙ sym (present_alone _ _ _ _ _ (sym c.generation-generation.ensures ∙ c.if-generation-eq0.true)
    (sym c.fit-present.ensures.both ∙ c.if-present.false))

some_before : (c : After-fit-previous) → c.args.self.now.present.now.number ≢ 0
some_before c = λ e. c.if-generation-eq0.false (c.generation-generation.ensures ∙ e)

wrong : (c : After-fit-previous) → tags_fit c.args.self.now.topo.now c.args.self.now.a c.args.self.now.packet.now c.args.j c.args.self.now.present.now.number ≡ false
wrong c = sym c.fit-present.ensures.both ∙ c.if-present.false

fits_before : (c : After-fit-previous)
    → tags_fit c.args.self.now.topo.now c.args.self.now.a c.args.self.now.packet.now c.args.j (c.args.self.now.present.now.number - 1) ≡ c.fit-previous.result.both
fits_before c =
    ap (tags_fit c.args.self.now.topo.now c.args.self.now.a c.args.self.now.packet.now c.args.j) (sym c.args.self.now.ready.before)
    ∙ sym c.fit-previous.ensures.both

pub returns-then-previous-clause-refusal : goal.returns-then-previous-clause-refusal
returns-then-previous-clause-refusal c =
    let d = (goal.at.returns-then-previous-clause-refusal c).After-fit-previous in
    sym (previous_right _ _ _ _ _ (some_before d) (wrong d) (fits_before d ∙ c.if-previous.true)).rows

pub returns-then-previous-clause-accepted : goal.returns-then-previous-clause-accepted
returns-then-previous-clause-accepted c =
    let d = (goal.at.returns-then-previous-clause-accepted c).After-fit-previous in
    as_accepting _ _ _ _ _ (c.args.self.now.present.now.number - 1) _ _
    (previous_right _ _ _ _ _ (some_before d) (wrong d) (fits_before d ∙ c.if-previous.true))
    (ap (λ n. n - 1) c.generation-generation.ensures)
    (subst (λ g. IsUpdate c.args.self.now.topo.now c.args.self.now.a g c.args.self.now.packet.now c.args.j c.fit-previous.result.update)
    c.args.self.now.ready.before c.fit-previous.ensures.update)
    c.fit-previous.ensures.width

pub returns-clause-refusal : goal.returns-clause-refusal
returns-clause-refusal c =
    let d = (goal.at.returns-clause-refusal c).After-fit-previous in
    let some : c.if-present-2.failing ≡ (c.fit-present.result.field || c.fit-previous.result.field) =
    elim c.if-present-2.branch [
      | then-present-2 w ↦ w.failing-is ∙ (w.if-present-2.true ∙ sym (ap (λ x. x || c.fit-previous.result.field) w.if-present-2.true))
      | else-present-2 w ↦ w.failing-is ∙ sym (ap (λ x. x || c.fit-previous.result.field) w.if-present-2.false)
    ] in
    let before = c.fit-previous.ensures.field
    ∙ ap (field_fits c.args.self.now.topo.now c.args.self.now.a c.args.self.now.packet.now c.args.j) c.args.self.now.ready.before in
    ap (λ check. Some (check, c.args.j)) (c.failing-2.ensures ∙ ap failing (some ∙ (λ i. c.fit-present.ensures.field i || before i)))
    ∙ sym (neither_right _ _ _ _ _ (some_before d) (wrong d) (fits_before d ∙ c.if-previous.false))
