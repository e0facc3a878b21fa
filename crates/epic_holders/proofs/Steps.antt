-- The least step at which a holder was revealed.
use Rattle.std.proofs.Common.{◌≡◌, ℕ, zero, suc, ◌+◌, ◌≤◌, Bool, true, List, [], ◌∷◌, drop, length, min, refl, ap, sym, ◌∙◌, subst, arith, inl, inr}
use Rattle.std.specs.Prelude.{Option, Some, None, filter_map, option_and_then, slice_get, if◌then◌else◌}
use Rattle.std.specs.List.{cons_option}
use Rattle.std.proofs.lemmas.Bool.{cases_lt}
use Rattle.std.proofs.lemmas.Option.{same_Some, cond_some}
use Rattle.epic_num.specs.declared.hop.HopName.{HopName}
use Rattle.epic_ledger.specs.Facts.{Facts, Reveal, as_reveal}
use Rattle.epic_ledger.specs.declared.event.Event.{Event}
use Rattle.epic_audit.specs.Reveals.{lesser}
use Rattle.epic_holders.specs.Found.{opened_at}
use Rattle.epic_holders.specs.Holders.{is_holder}
use Rattle.epic_holders.specs.Makers.{opened_by, least_opened}
use Rattle.epic_holders.proofs.Sent.{nothing_left}

min_assoc : (m n k : ℕ) → min (min m n) k ≡ min m (min n k)
min_assoc m n k = omega arith

lesser_assoc : (a b c : Option ℕ) → lesser (lesser a b) c ≡ lesser a (lesser b c)
lesser_assoc a b None = refl
lesser_assoc a None (Some n) = refl
lesser_assoc None (Some m) (Some n) = refl
lesser_assoc (Some l) (Some m) (Some n) = ap Some (min_assoc l m n)

none_lesser : (o : Option ℕ) → lesser None o ≡ o
none_lesser None = refl
none_lesser (Some n) = refl

-- ---- a walk along events

module _ (f : Facts) (x : HopName) (events : List Event) (k : ℕ) (e : Event) (here : drop k events ≡ e ∷ drop (k + 1) events) where
  abbrev rest : Option ℕ
  rest = least_opened f x (filter_map as_reveal (drop (k + 1) events))

  at_event : least_opened f x (filter_map as_reveal (drop k events)) ≡ lesser (opened_at f x e) rest
  unfolding opened_at
  at_event = ap (λ es. least_opened f x (filter_map as_reveal es)) here ∙ by (as_reveal e)
    where
      by : (o : Option Reveal) → least_opened f x (cons_option o (filter_map as_reveal (drop (k + 1) events))) ≡ lesser (option_and_then (opened_by f x) o) rest
      by None = sym (none_lesser rest)
      by (Some r) = refl

  -- the step so far, and that of the event
  pub next_least : (least next : Option ℕ) → next ≡ lesser least (opened_at f x e)
      → lesser next rest ≡ lesser least (least_opened f x (filter_map as_reveal (drop k events)))
  next_least least next is =
      ap (λ o. lesser o rest) is ∙ (lesser_assoc least (opened_at f x e) rest ∙ ap (lesser least) (sym at_event))

-- past the last event
pub whole_least : (f : Facts) (x : HopName) (events : List Event) (k : ℕ) (least total : Option ℕ) → length events ≤ k
    → lesser least (least_opened f x (filter_map as_reveal (drop k events))) ≡ total → least ≡ total
whole_least f x events k least total over so_far =
    sym (ap (λ es. lesser least (least_opened f x (filter_map as_reveal es))) (nothing_left events k over)) ∙ so_far

-- ---- what the least step is

pub record LeastAmong (f : Facts) (x : HopName) (rs : List Reveal) (step : ℕ) : Type 0 where
  pub index : ℕ
  pub reveal : Reveal
  pub there : slice_get rs index ≡ Some reveal
  pub holds : is_holder f x reveal.holder ≡ true
  pub step_is : reveal.step ≡ step
  pub least : (n : ℕ) (r : Reveal) → slice_get rs n ≡ Some r → is_holder f x r.holder ≡ true → step ≤ r.step

module _ (f : Facts) (x : HopName) where
  -- what the step of one reveal says
  by_some : (r : Reveal) (m : ℕ) → opened_by f x r ≡ Some m → (is_holder f x r.holder ≡ true) × (r.step ≡ m)
  unfolding opened_by
  by_some r m e = cond_some (is_holder f x r.holder) r.step m e

  by_none : (r : Reveal) → opened_by f x r ≡ None → is_holder f x r.holder ≡ true → ⊥
  unfolding opened_by
  by_none r e holds =
      let some : Some r.step ≡ None = sym (ap (λ (b : Bool). if b then Some r.step else None) holds) ∙ e in
      cc

  neither : (o rest : Option ℕ) → lesser o rest ≡ None → (o ≡ None) × (rest ≡ None)
  neither None None e = (refl, refl)
  neither (Some m) None e = absurd (cc)
  neither None (Some n) e = absurd (cc)
  neither (Some m) (Some n) e = absurd (cc)

  pub none_opened : (rs : List Reveal) → least_opened f x rs ≡ None → (n : ℕ) (r : Reveal) → slice_get rs n ≡ Some r → is_holder f x r.holder ≡ true → ⊥
  none_opened [] e n r there holds = cc
  none_opened (q ∷ rs) e zero r there holds =
      let same : q ≡ r = same_Some q r there in
      by_none q (neither (opened_by f x q) (least_opened f x rs) e).0 (ap (λ (s : Reveal). is_holder f x s.holder) same ∙ holds)
  none_opened (q ∷ rs) e (suc n) r there holds =
      none_opened rs (neither (opened_by f x q) (least_opened f x rs) e).1 n r there holds

  -- a step that is at most that of the first, where it is a holder's, and those of the others
  at_most : (q : Reveal) (rs : List Reveal) (step : ℕ) → (is_holder f x q.holder ≡ true → step ≤ q.step)
      → ((n : ℕ) (r : Reveal) → slice_get rs n ≡ Some r → is_holder f x r.holder ≡ true → step ≤ r.step)
      → (n : ℕ) (r : Reveal) → slice_get (q ∷ rs) n ≡ Some r → is_holder f x r.holder ≡ true → step ≤ r.step
  at_most q rs step first others zero r there holds =
      let same : q ≡ r = same_Some q r there in
      subst (λ (s : Reveal). step ≤ s.step) same (first (ap (λ (s : Reveal). is_holder f x s.holder) same ∙ holds))
  at_most q rs step first others (suc n) r there holds = others n r there holds

  pub least_is : (rs : List Reveal) (step : ℕ) → least_opened f x rs ≡ Some step → LeastAmong f x rs step
  least_is [] step e = absurd (cc)
  least_is (q ∷ rs) step e = by (opened_by f x q) (least_opened f x rs) refl refl (λ n. least_is rs n) e
    where
      by : (o rest : Option ℕ) → opened_by f x q ≡ o → least_opened f x rs ≡ rest → ((n : ℕ) → least_opened f x rs ≡ Some n → LeastAmong f x rs n)
          → lesser o rest ≡ Some step → LeastAmong f x (q ∷ rs) step
      by None None a b more s = absurd (cc)
      by (Some m) None a b more s =
          let own = by_some q m a in
          let same : m ≡ step = same_Some m step s in
          record {
            index = 0;
            reveal = q;
            there = refl;
            holds = own.0;
            step_is = own.1 ∙ same;
            least = at_most q rs step (λ h. (let is = own.1 in omega arith)) (λ n r at h. absurd (none_opened rs b n r at h));
          }
      by None (Some n) a b more s =
          let later = more n b in
          let same : n ≡ step = same_Some n step s in
          record {
            index = suc later.index;
            reveal = later.reveal;
            there = later.there;
            holds = later.holds;
            step_is = later.step_is ∙ same;
            least = at_most q rs step (λ h. absurd (by_none q a h)) (λ k r at h. (let low = later.least k r at h in omega arith));
          }
      by (Some m) (Some n) a b more s =
          let own = by_some q m a in
          let later = more n b in
          let same : min m n ≡ step = same_Some (min m n) step s in
          let least : (k : ℕ) (r : Reveal) → slice_get (q ∷ rs) k ≡ Some r → is_holder f x r.holder ≡ true → step ≤ r.step =
          at_most q rs step (λ h. (let is = own.1 in omega arith)) (λ k r at h. (let low = later.least k r at h in omega arith)) in
          elim (cases_lt m n) [
            | inl below ↦ (let is : m ≡ step = omega arith in record {
              index = 0;
              reveal = q;
              there = refl;
              holds = own.0;
              step_is = own.1 ∙ is;
              least = least;
            })
            | inr above ↦ (let is : n ≡ step = omega arith in record {
              index = suc later.index;
              reveal = later.reveal;
              there = later.there;
              holds = later.holds;
              step_is = later.step_is ∙ is;
              least = least;
            })
          ]
