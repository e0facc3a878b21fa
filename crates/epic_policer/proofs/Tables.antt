-- The policers of a network after one of them was put among the others.
use Rattle.std.proofs.Common.{◌≡◌, ℕ, ◌+◌, ◌≤◌, refl, sym, ◌∙◌, ap, subst, List, [], Bool, true, false, cond, ◌==◌, arith}
use Rattle.std.specs.Prelude.{Option, None, Some, Result, Ok, Err, nat_lt}
use Rattle.std.specs.Map.{lookup}
use Rattle.std.proofs.lemmas.Bool.{eq-eqb, eqb-true}
use Rattle.epic_num.specs.declared.memory.OutOfMemory.{OutOfMemory}
use Rattle.epic_num.specs.declared.name.AsId.{AsId}
use Rattle.epic_policer.specs.Offers.{Held, Policy, Same, after, answer, is_among, used}
use Rattle.epic_policer.specs.Policing.{passed_by, passed_in, policer_in}
use Rattle.epic_policer.specs.Table.{Alike, AreLike, Asks, AsksAt, IsLike, Took}
use Rattle.epic_policer.specs.declared.packet.Packet.{Packet}
use Rattle.epic_policer.specs.declared.policed.Policed.{Policed}
use Rattle.epic_policer.specs.declared.policed.Policed.TheVariants.{Pass, Over, Unknown}
use Rattle.epic_policer.proofs.Sums.{Same-refl}

-- ---- settings that are alike

alike-trans : (x y z : Policy) → Alike x y → Alike y z → Alike x z
alike-trans x y z a b = record { sources = λ s. a.sources s ∙ b.sources s; budget = a.budget ∙ b.budget; span = a.span ∙ b.span }

pub answer-alike : (x y : Policy) (passed : List Packet) (p : Packet) → Alike x y → answer x passed p ≡ answer y passed p
unfolding answer
answer-alike x y passed p a = λ i.
    let already = used (a.span i) passed p.moment p.source in
    cond (a.sources p.source i) (cond (nat_lt (a.budget i) (already + p.bytes)) (Over already) (Pass (already + p.bytes))) Unknown

pub took-alike : (x y : Policy) (passed : List Packet) (p : Packet) (given : Policed) (new : Held) → Alike x y → Took x passed p given new → Took y passed p given new
took-alike x y passed p given new a t = record {
  answers = t.answers ∙ answer-alike x y passed p a;
  passed_is = subst (λ n. Same n p.moment new.passed (after passed p given)) a.span t.passed_is;
  alike = alike-trans new.policy x y t.alike a;
  latest = t.latest;
}

-- ---- no policer yet

pub no_policer : (entries : List (AsId × Held)) (a : AsId) → entries ≡ [] → policer_in entries a ≡ None
unfolding policer_in
no_policer entries a e = ap (lookup (λ (t : AsId). a.0 == t.0)) e

pub none_like : (policy : Policy) (latest : ℕ) (entries : List (AsId × Held)) → entries ≡ [] → AreLike policy latest entries
none_like policy latest entries e a = subst (IsLike policy latest) (sym (no_policer entries a e)) tt

pub none_passed_in : (entries : List (AsId × Held)) (a : AsId) → entries ≡ [] → passed_in entries a ≡ []
unfolding passed_in
none_passed_in entries a e = ap passed_by (no_policer entries a e)

later_like : (policy : Policy) (latest later : ℕ) (o : Option Held) → latest ≤ later → IsLike policy latest o → IsLike policy later o
later_like policy latest later None le k = tt
later_like policy latest later (Some h) le k = let was = k.1 in (k.0, omega (arith, le, was))

pub all_later : (policy : Policy) (latest later : ℕ) (entries : List (AsId × Held)) → latest ≤ later → AreLike policy latest entries → AreLike policy later entries
all_later policy latest later entries le k a = later_like policy latest later (policer_in entries a) le (k a)

-- ---- a policer was put

-- what a policer that was put leaves at each AS
abbrev pub Puts : List (AsId × Held) → AsId → Held → List (AsId × Held) → Type 0
Puts old at h new = (a : AsId) → lookup (λ (t : AsId). a.0 == t.0) new ≡ cond (at.0 == a.0) (Some h) (lookup (λ (t : AsId). a.0 == t.0) old)

same_at : (at a : AsId) → (at.0 == a.0) ≡ true → at ≡ a
same_at at a e = ap (λ n. record { 0 = n }) (eqb-true at.0 a.0 e)

module _ (old new : List (AsId × Held)) (at : AsId) (h : Held) (puts : Puts old at h new) where
  put_is : (a : AsId) → policer_in new a ≡ cond (at.0 == a.0) (Some h) (policer_in old a)
  unfolding policer_in
  put_is a = puts a

  -- what holds of the policer that was put, and of the others before, holds of all
  each : (P : AsId → Option Held → Type 0) → P at (Some h) → ((a : AsId) → (at.0 == a.0) ≡ false → P a (policer_in old a)) → (a : AsId) → P a (policer_in new a)
  each P here there a = subst (P a) (sym (put_is a)) (by_test (at.0 == a.0) refl)
    where
      by_test : (b : Bool) → (at.0 == a.0) ≡ b → P a (cond b (Some h) (policer_in old a))
      by_test true e = subst (λ c. P c (Some h)) (same_at at a e) here
      by_test false e = there a e

  put_like : (policy : Policy) (latest : ℕ) → Alike h.policy policy → h.latest ≤ latest → AreLike policy latest old → AreLike policy latest new
  put_like policy latest alike le k = each (λ a o. IsLike policy latest o) (alike, le) (λ a other. k a)

  module _ (policy : Policy) (p : Packet) where
    -- a packet was offered to it
    pub took_at : (given : Policed) → AreLike policy p.moment old → Took policy (passed_in old at) p given h → AsksAt policy old at p new (Ok given)
    unfolding passed_in
    took_at given k t = (
      t.answers,
      each
          (λ a o. Same policy.span_us p.moment (passed_by o) (cond (at.0 == a.0) (after (passed_in old a) p given) (passed_in old a)))
          (subst (Same policy.span_us p.moment h.passed) (ap (λ b. cond b (after (passed_in old at) p given) (passed_in old at)) (sym (eq-eqb at.0 at.0 refl))) t.passed_is)
          (λ a other.
          subst (Same policy.span_us p.moment (passed_in old a)) (ap (λ b. cond b (after (passed_in old a) p given) (passed_in old a)) (sym other))
          (Same-refl policy.span_us p.moment (passed_in old a))),
      let e = t.latest in put_like policy p.moment t.alike (omega (arith, e)) k,
    )

    -- it has let pass what the one before it had
    pub kept_at : (was : Held) → policer_in old at ≡ Some was → h.passed ≡ was.passed → h.policy ≡ was.policy → h.latest ≡ was.latest → AsksAt policy old at p new (Err _)
    unfolding passed_in
    kept_at was here passed keeps latest = (
      each (λ a o. passed_by o ≡ passed_in old a) (passed ∙ sym (ap passed_by here)) (λ a other. refl),
      λ m k.
          let own = subst (IsLike policy m) here (k at) in
          let le = own.1 in
          put_like policy m (subst (λ y. Alike y policy) (sym keeps) own.0) (omega (arith, latest, le)) k,
    )

-- nothing was put
pub same_at_all : (policy : Policy) (old new : List (AsId × Held)) (at : AsId) (p : Packet) (e : OutOfMemory) → new ≡ old → AsksAt policy old at p new (Err e)
same_at_all policy old new at p e same = (
  λ a. ap (λ es. passed_in es a) same,
  λ latest k. subst (AreLike policy latest) (sym same) k,
)

-- the policer of an AS that had one was asked
pub asked_at : (policy : Policy) (old new : List (AsId × Held)) (at : AsId) (p : Packet) (was h : Held) (r : Result Policed OutOfMemory)
    → Some was ≡ lookup (λ (t : AsId). at.0 == t.0) old → Puts old at h new → AreLike policy p.moment old → Asks was p h r → AsksAt policy old at p new r
unfolding policer_in passed_in
asked_at policy old new at p was h (Ok given) here puts k asks =
    let own = subst (IsLike policy p.moment) (sym here) (k at) in
    let t = took-alike was.policy policy was.passed p given h own.0 asks in
    took_at old new at h puts policy p given k (subst (λ ps. Took policy ps p given h) (ap passed_by here) t)
asked_at policy old new at p was h (Err e) here puts k asks = kept_at old new at h puts policy p was (sym here) asks.0 asks.1 asks.2

-- a policer was made for an AS that had none
pub made_at : (policy : Policy) (old new : List (AsId × Held)) (at : AsId) (p : Packet) (h : Held) (given : Policed)
    → None ≡ lookup (λ (t : AsId). at.0 == t.0) old → Puts old at h new → AreLike policy p.moment old → Took policy [] p given h → AsksAt policy old at p new (Ok given)
unfolding policer_in passed_in
made_at policy old new at p h given none puts k t =
    took_at old new at h puts policy p given k (subst (λ ps. Took policy ps p given h) (ap passed_by none) t)

-- the first packet of a policer
pub first_took : (policy : Policy) (p : Packet) (was h : Held) (given : Policed) → ((s : AsId) → is_among was.policy.sources s ≡ is_among policy.sources s)
    → was.policy.budget ≡ policy.budget → was.policy.span_us ≡ policy.span_us → was.passed ≡ [] → Took was.policy was.passed p given h → Took policy [] p given h
first_took policy p was h given sources budget span none t =
    took-alike was.policy policy [] p given h (record { sources = sources; budget = budget; span = span }) (subst (λ ps. Took was.policy ps p given h) none t)

-- what holds of the policer of an AS
pub own_like : (policy : Policy) (latest : ℕ) (entries : List (AsId × Held)) (at : AsId) (was : Held) → Some was ≡ lookup (λ (t : AsId). at.0 == t.0) entries
    → AreLike policy latest entries → was.latest ≤ latest
unfolding policer_in
own_like policy latest entries at was here k = let own = subst (IsLike policy latest) (sym here) (k at) in own.1
