-- The answers of a run are those of the definition.
use Rattle.std.proofs.Common.{◌≡◌, ◌≤◌, refl, sym, ◌∙◌, ap, subst, List, [], ◌∷◌, map, arith}
use Rattle.epic_policer.specs.Offers.{Held, Offers, Policy, Same, after, answer, answer_at, answers}
use Rattle.epic_policer.specs.Runs.{IsRun, Keeps, Turn}
use Rattle.epic_policer.specs.declared.packet.Packet.{Packet}
use Rattle.epic_policer.proofs.Sums.{Same-after, Same-later, Same-trans}

-- where the same is used, the same is answered
pub answer_same : (policy : Policy) (p : Packet) (xs ys : List Packet) → Same policy.span_us p.moment xs ys → answer policy xs p ≡ answer policy ys p
unfolding answer
answer_same policy p xs ys same = ap (λ n. answer_at policy n p) (same.used_is p.moment p.source (omega arith))

-- one offer: its answer, and what is used after it
module _ (old : Held) (t : Turn) (passed : List Packet) (same : Same old.policy.span_us old.latest old.passed passed) (keeps : Keeps old t.ready) (later : t.ready.latest ≤ t.packet.moment) (offers : Offers t.ready t.left t.packet t.given) where
  span_is : t.ready.policy.span_us ≡ old.policy.span_us
  span_is = ap (λ (y : Policy). y.span_us) keeps.policy

  ready_same : Same old.policy.span_us t.packet.moment t.ready.passed passed
  ready_same = Same-later old.policy.span_us old.latest t.packet.moment t.ready.passed passed
      (let e = keeps.latest in omega (arith, e, later))
      (Same-trans old.policy.span_us old.latest t.ready.passed old.passed passed keeps.passed same)

  pub given_is : t.given ≡ answer old.policy passed t.packet
  given_is = offers.answers ∙ ap (λ y. answer y t.ready.passed t.packet) keeps.policy ∙ answer_same old.policy t.packet t.ready.passed passed ready_same

  pub policy_is : t.left.policy ≡ old.policy
  policy_is = offers.policy ∙ keeps.policy

  pub left_same : Same t.left.policy.span_us t.left.latest t.left.passed (after passed t.packet t.given)
  left_same =
      let given = subst (λ span. Same span t.packet.moment t.left.passed (after t.ready.passed t.packet t.given)) span_is offers.passed in
      let all = Same-trans old.policy.span_us t.packet.moment t.left.passed (after t.ready.passed t.packet t.given) (after passed t.packet t.given)
      given
      (Same-after old.policy.span_us t.packet.moment t.packet t.given t.ready.passed passed ready_same) in
      subst (λ span. Same span t.left.latest t.left.passed (after passed t.packet t.given)) (ap (λ (y : Policy). y.span_us) (sym policy_is))
      (subst (λ n. Same old.policy.span_us n t.left.passed (after passed t.packet t.given)) (sym offers.latest) all)

pub folds : (ts : List Turn) (old : Held) (passed : List Packet) → Same old.policy.span_us old.latest old.passed passed → IsRun old ts
    → map (λ (t : Turn). t.given) ts ≡ answers old.policy passed (map (λ (t : Turn). t.packet) ts)
unfolding answers
folds [] old passed same run = refl
folds (t ∷ ts) old passed same run =
    let e = given_is old t passed same run.0 run.1 run.2 in
    let step = folds ts t.left (after passed t.packet t.given) (left_same old t passed same run.0 run.1 run.2) run.3 in
    let rest = step ∙ ap (λ y. answers y (after passed t.packet t.given) (map (λ (u : Turn). u.packet) ts)) (policy_is old t passed same run.0 run.1 run.2)
    ∙ ap (λ g. answers old.policy (after passed t.packet g) (map (λ (u : Turn). u.packet) ts)) e in
    λ i. e i ∷ rest i
