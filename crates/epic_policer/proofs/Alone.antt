-- The answers to a source are those of a policer that is offered this source's packets alone.
use Rattle.std.proofs.Common.{◌≡◌, ℕ, refl, sym, ◌∙◌, ap, List, [], ◌∷◌, map, Bool, true, false, cond, arith}
use Rattle.std.specs.Prelude.{filter, zip}
use Rattle.std.proofs.lemmas.Bool.{eqb-true, and_left}
use Rattle.epic_num.specs.declared.name.AsId.{AsId}
use Rattle.epic_num.specs.Same.{same_as}
use Rattle.epic_policer.specs.Apart.{answers_to, is_from, offers_of}
use Rattle.epic_policer.specs.Offers.{Policy, after, answer, answer_at, answers, is_live, used}
use Rattle.epic_policer.specs.declared.packet.Packet.{Packet}
use Rattle.epic_policer.specs.declared.policed.Policed.{Policed}
use Rattle.epic_policer.specs.declared.policed.Policed.TheVariants.{Pass, Over, Unknown}
use Rattle.epic_policer.proofs.Sums.{counts, used-cons, worth}

-- after one of its packets a source has used the same in both, if it had before
pub after_own : (span now : ℕ) (source : AsId) (p : Packet) (given : Policed) (xs ys : List Packet) → used span xs now source ≡ used span ys now source
    → used span (after xs p given) now source ≡ used span (after ys p given) now source
after_own span now source p (Pass n) xs ys e = omega (arith, used-cons span now source p xs, used-cons span now source p ys, e)
after_own span now source p (Over n) xs ys e = e
after_own span now source p Unknown xs ys e = e

-- after a packet of another source it has used what it had
pub after_other : (span now : ℕ) (source : AsId) (p : Packet) (given : Policed) (xs : List Packet) → same_as p.source source ≡ false
    → used span (after xs p given) now source ≡ used span xs now source
after_other span now source p (Pass n) xs other =
    let e : worth (counts span now source p) p ≡ 0 = ap (λ b. worth b p) (and_left (same_as p.source source) (is_live span now p) other) in
    omega (arith, used-cons span now source p xs, e)
after_other span now source p (Over n) xs other = refl
after_other span now source p Unknown xs other = refl

pub same_source : (a b : AsId) → same_as a b ≡ true → a ≡ b
unfolding same_as
same_source a b e = ap (λ n. record { 0 = n }) (eqb-true a.0 b.0 e)

module _ (policy : Policy) (source : AsId) where
  -- the same is used by the source in both
  abbrev Agree : List Packet → List Packet → Type 0
  Agree xs ys = (now : ℕ) → used policy.span_us xs now source ≡ used policy.span_us ys now source

  same_answer : (p : Packet) (xs ys : List Packet) → same_as p.source source ≡ true → Agree xs ys → answer policy xs p ≡ answer policy ys p
  unfolding answer
  same_answer p xs ys own agree =
      let s = same_source p.source source own in
      ap (λ n. answer_at policy n p)
      (ap (λ a. used policy.span_us xs p.moment a) s ∙ agree p.moment ∙ ap (λ a. used policy.span_us ys p.moment a) (sym s))

  pub alone : (ps xs ys : List Packet) → Agree xs ys → answers_to source ps (answers policy xs ps) ≡ answers policy ys (offers_of source ps)
  unfolding answers
  alone [] xs ys agree = refl
  alone (p ∷ ps) xs ys agree = by_test (is_from source p) refl (alone ps)
    where
      given : Policed
      given = answer policy xs p

      by_test : (b : Bool) → is_from source p ≡ b
          → ((us vs : List Packet) → Agree us vs → answers_to source ps (answers policy us ps) ≡ answers policy vs (offers_of source ps))
          → map (λ (x : Packet × Policed). x.1) (cond b ((p, given) ∷ filter (λ x. is_from source x.0) (zip ps (answers policy (after xs p given) ps))) (filter (λ x. is_from source x.0) (zip ps (answers policy (after xs p given) ps))))
          ≡ answers policy ys (cond b (p ∷ offers_of source ps) (offers_of source ps))
      by_test true own step =
          let e = same_answer p xs ys own agree in
          let rest = step (after xs p given) (after ys p given) (λ now. after_own policy.span_us now source p given xs ys (agree now))
          ∙ ap (λ g. answers policy (after ys p g) (offers_of source ps)) e in
          λ i. e i ∷ rest i
      by_test false other step = step (after xs p given) ys (λ now. after_other policy.span_us now source p given xs other ∙ agree now)
