-- What has passed at an AS after one more offer, and the answers at an AS.
use Rattle.std.proofs.Common.{◌≡◌, ◌≤◌, refl, sym, ◌∙◌, ap, subst, List, [], ◌∷◌, ◌++◌, map, Bool, true, false, cond, ◌==◌}
use Rattle.std.specs.Prelude.{filter, zip, Result, Ok, Err, OnErr}
use Rattle.std.proofs.lemmas.List.{append-nil, map-append}
use Rattle.std.proofs.lemmas.List.Elements.{filter-append}
use Rattle.epic_num.specs.declared.memory.OutOfMemory.{OutOfMemory}
use Rattle.epic_num.specs.declared.name.AsId.{AsId}
use Rattle.epic_num.specs.Same.{same_as}
use Rattle.epic_policer.specs.Offers.{Policy, Same, after, answer, answers}
use Rattle.epic_policer.specs.Policing.{Offer, Policing, PolicersStandApart, StandFor, all_said, answers_at, packets_at, passed_at, passed_in, passing, said}
use Rattle.epic_policer.specs.declared.packet.Packet.{Packet}
use Rattle.epic_policer.specs.declared.policed.Policed.{Policed}
use Rattle.epic_policer.proofs.Alone.{same_source}
use Rattle.epic_policer.proofs.Folds.{answer_same}
use Rattle.epic_policer.proofs.Sums.{Same-after, Same-later, Same-refl, Same-trans}
use Rattle.epic_policer.proofs.Tables.{none_passed_in}

-- after one more packet
abbrev pub with_packet : Policy → List Packet → Packet → List Packet
with_packet policy passed p = after passed p (answer policy passed p)

passing-push : (policy : Policy) (passed ps : List Packet) (p : Packet) → passing policy passed (ps ++ p ∷ []) ≡ with_packet policy (passing policy passed ps) p
unfolding passing
passing-push policy passed [] p = refl
passing-push policy passed (q ∷ ps) p = passing-push policy (with_packet policy passed q) ps p

passing-none : (policy : Policy) (ps : List Packet) → passing policy ps [] ≡ ps
unfolding passing
passing-none policy ps = refl

packets-push : (a : AsId) (os : List Offer) (o : Offer) → packets_at a (os ++ o ∷ []) ≡ packets_at a os ++ packets_at a (o ∷ [])
packets-push a os o =
    ap (map (λ (x : Offer). x.packet)) (filter-append (λ x. same_as x.at a) os (o ∷ []))
    ∙ map-append (λ (x : Offer). x.packet) (filter (λ x. same_as x.at a) os) (filter (λ x. same_as x.at a) (o ∷ []))

pub none_passed : (policy : Policy) (a : AsId) → passed_at policy [] a ≡ []
unfolding passed_at
none_passed policy a = passing-none policy []

module _ (policy : Policy) (os : List Offer) (o : Offer) (a : AsId) where
  -- one more offer at the AS
  pub passed-here : same_as o.at a ≡ true → passed_at policy (os ++ o ∷ []) a ≡ with_packet policy (passed_at policy os a) o.packet
  unfolding passed_at
  passed-here e =
      ap (passing policy []) (packets-push a os o ∙ ap (λ b. packets_at a os ++ map (λ (x : Offer). x.packet) (cond b (o ∷ []) [])) e)
      ∙ passing-push policy [] (packets_at a os) o.packet

  -- one more at another AS
  pub passed-there : same_as o.at a ≡ false → passed_at policy (os ++ o ∷ []) a ≡ passed_at policy os a
  unfolding passed_at
  passed-there e =
      ap (passing policy [])
      (packets-push a os o ∙ ap (λ b. packets_at a os ++ map (λ (x : Offer). x.packet) (cond b (o ∷ []) [])) e ∙ append-nil (packets_at a os))

-- ---- the answers at an AS

module _ (policy : Policy) (a : AsId) where
  said_here : (before : List Offer) (o : Offer) → same_as o.at a ≡ true → said policy before o ≡ answer policy (passed_at policy before a) o.packet
  unfolding said
  said_here before o e = ap (λ b. answer policy (passed_at policy before b) o.packet) (same_source o.at a e)

  pub apart : (os before : List Offer) → answers_at a os (all_said policy before os) ≡ answers policy (passed_at policy before a) (packets_at a os)
  unfolding all_said answers
  apart [] before = refl
  apart (o ∷ os) before = by_test (same_as o.at a) refl (apart os (before ++ o ∷ []))
    where
      by_test : (b : Bool) → same_as o.at a ≡ b
          → answers_at a os (all_said policy (before ++ o ∷ []) os) ≡ answers policy (passed_at policy (before ++ o ∷ []) a) (packets_at a os)
          → map (λ (x : Offer × Policed). x.1) (cond b ((o, said policy before o) ∷ filter (λ x. same_as x.0.at a) (zip os (all_said policy (before ++ o ∷ []) os))) (filter (λ x. same_as x.0.at a) (zip os (all_said policy (before ++ o ∷ []) os))))
          ≡ answers policy (passed_at policy before a) (map (λ (x : Offer). x.packet) (cond b (o ∷ filter (λ x. same_as x.at a) os) (filter (λ x. same_as x.at a) os)))
      by_test true here step =
          let rest = step ∙ ap (λ ps. answers policy ps (packets_at a os)) (passed-here policy before o a here) in
          let first = said_here before o here in
          λ i. first i ∷ rest i
      by_test false there step = step ∙ ap (λ ps. answers policy ps (packets_at a os)) (passed-there policy before o a there)

pub policers_apart : PolicersStandApart
policers_apart policy a offers = apart policy a offers [] ∙ ap (λ ps. answers policy ps (packets_at a offers)) (none_passed policy a)

-- ---- what the policers stand for

-- what is answered by policers that stand for offers
pub said_by : (policers : Policing) (policy : Policy) (offers : List Offer) (o : Offer) (given : Policed)
    → policers.latest ≤ o.packet.moment → given ≡ answer policers.policy (passed_in policers.entries o.at) o.packet → StandFor policers policy offers → given ≡ said policy offers o
unfolding said
said_by policers policy offers o given le e s =
    e ∙ ap (λ y. answer y (passed_in policers.entries o.at) o.packet) s.policy_is
    ∙ answer_same policy o.packet (passed_in policers.entries o.at) (passed_at policy offers o.at)
    (Same-later policy.span_us policers.latest o.packet.moment (passed_in policers.entries o.at) (passed_at policy offers o.at) le (s.passed_is o.at))

-- what they stand for after an offer
module _ (old new : Policing) (policy : Policy) (offers : List Offer) (o : Offer) (given : Policed)
    (le : old.latest ≤ o.packet.moment) (latest : new.latest ≡ o.packet.moment) (keeps : new.policy ≡ old.policy)
    (is : given ≡ answer old.policy (passed_in old.entries o.at) o.packet)
    (left : (a : AsId) → Same old.policy.span_us o.packet.moment (passed_in new.entries a) (cond (o.at.0 == a.0) (after (passed_in old.entries a) o.packet given) (passed_in old.entries a)))
    (s : StandFor old policy offers) where
  later : (a : AsId) → Same policy.span_us o.packet.moment (passed_in old.entries a) (passed_at policy offers a)
  later a = Same-later policy.span_us old.latest o.packet.moment (passed_in old.entries a) (passed_at policy offers a) le (s.passed_is a)

  given_at : (a : AsId) → same_as o.at a ≡ true → given ≡ answer policy (passed_at policy offers a) o.packet
  unfolding said
  given_at a e =
      said_by old policy offers o given le is s ∙ ap (λ b. answer policy (passed_at policy offers b) o.packet) (same_source o.at a e)

  left_at : (a : AsId) (b : Bool) → same_as o.at a ≡ b
      → Same policy.span_us o.packet.moment (passed_in new.entries a) (cond b (after (passed_in old.entries a) o.packet given) (passed_in old.entries a))
      → Same policy.span_us o.packet.moment (passed_in new.entries a) (passed_at policy (offers ++ o ∷ []) a)
  left_at a true e h =
      let here = given_at a e in
      subst (Same policy.span_us o.packet.moment (passed_in new.entries a)) (ap (after (passed_at policy offers a) o.packet) here ∙ sym (passed-here policy offers o a e))
      (Same-trans policy.span_us o.packet.moment (passed_in new.entries a) (after (passed_in old.entries a) o.packet given) (after (passed_at policy offers a) o.packet given) h
      (Same-after policy.span_us o.packet.moment o.packet given (passed_in old.entries a) (passed_at policy offers a) (later a)))
  left_at a false e h =
      subst (Same policy.span_us o.packet.moment (passed_in new.entries a)) (sym (passed-there policy offers o a e))
      (Same-trans policy.span_us o.packet.moment (passed_in new.entries a) (passed_in old.entries a) (passed_at policy offers a) h (later a))

  left_by : (a : AsId) → Same policy.span_us o.packet.moment (passed_in new.entries a) (cond (same_as o.at a) (after (passed_in old.entries a) o.packet given) (passed_in old.entries a))
  unfolding same_as
  left_by a =
      subst (λ (y : Policy). Same y.span_us o.packet.moment (passed_in new.entries a) (cond (o.at.0 == a.0) (after (passed_in old.entries a) o.packet given) (passed_in old.entries a))) s.policy_is (left a)

  pub stand_more : StandFor new policy (offers ++ o ∷ [])
  stand_more = record {
    policy_is = keeps ∙ s.policy_is;
    passed_is = λ a.
        subst (λ n. Same policy.span_us n (passed_in new.entries a) (passed_at policy (offers ++ o ∷ []) a)) (sym latest)
        (left_at a (same_as o.at a) refl (left_by a));
  }

-- nothing was offered
pub stand_still : (old new : Policing) (policy : Policy) (offers : List Offer) → new.latest ≡ old.latest → new.policy ≡ old.policy
    → ((a : AsId) → passed_in new.entries a ≡ passed_in old.entries a) → StandFor old policy offers → StandFor new policy offers
stand_still old new policy offers latest keeps same s = record {
  policy_is = keeps ∙ s.policy_is;
  passed_is = λ a.
      subst (λ n. Same policy.span_us n (passed_in new.entries a) (passed_at policy offers a)) (sym latest)
      (subst (λ ps. Same policy.span_us old.latest ps (passed_at policy offers a)) (sym (same a)) (s.passed_is a));
}

-- nothing was offered yet
pub stand_new : (policers : Policing) (policy : Policy) → policers.policy ≡ policy → policers.entries ≡ [] → StandFor policers policy []
stand_new policers policy settings none = record {
  policy_is = settings;
  passed_is = λ a.
      subst (λ ps. Same policy.span_us policers.latest ps (passed_at policy [] a)) (sym (none_passed_in policers.entries a none))
      (subst (Same policy.span_us policers.latest []) (sym (none_passed policy a)) (Same-refl policy.span_us policers.latest []));
}

pub on_err : {P : Type 0} (r : Result Policed OutOfMemory) → P → OnErr r P
on_err (Ok x) p = tt
on_err (Err e) p = p
