-- The places of hops in their segments.
use Rattle.std.proofs.Common.{◌≡◌, ℕ, zero, suc, ◌+◌, ◌-◌, ◌<◌, ◌≤◌, Bool, true, false, List, [], ◌∷◌, length, take, get_or, refl, ap, sym, ◌∙◌, subst, ⊎_elim, arith, zero-add, if◌then◌else◌}
use Rattle.std.specs.Prelude.{◌==◌, Some}
use Rattle.std.specs.Bool.{MatchBool}
use Rattle.std.proofs.lemmas.Bool.{cases_lt, lt-ltb, le-ltb, cond-true, cond-false, ne_eqb, eqb-false}
use Rattle.std.proofs.lemmas.List.Sums.{sum_by-cons}
use Rattle.epic_layout.specs.Route.{place, place_from, hops_of, position, successor, is_first, no_segment}
use Rattle.epic_layout.specs.Laws.{hops_before, IsPlaceOf, PlacesAreOne, NeighboursFollow}
use Rattle.epic_layout.specs.declared.head.SegmentHead.{SegmentHead}
use Rattle.epic_layout.specs.declared.head.HopPlace.{HopPlace}

pub hops_of-cons : (s : SegmentHead) (ss : List SegmentHead) → hops_of (s ∷ ss) ≡ s.count + hops_of ss
unfolding hops_of
hops_of-cons s ss = sum_by-cons (λ t. t.count) s ss

pub hops_of-nil : hops_of [] ≡ 0
unfolding hops_of
hops_of-nil = refl

pub place_from_here : (n : ℕ) (s : SegmentHead) (ss : List SegmentHead) (j : ℕ) → j < s.count → place_from n (s ∷ ss) j ≡ record { segment = n; head = s; index = j }
unfolding place_from
place_from_here n s ss j h = cond-true _ _ _ (lt-ltb j s.count h)

pub place_from_later : (n : ℕ) (s : SegmentHead) (ss : List SegmentHead) (j : ℕ) → s.count ≤ j → place_from n (s ∷ ss) j ≡ place_from (n + 1) ss (j - s.count)
unfolding place_from
place_from_later n s ss j h = cond-false _ _ _ (le-ltb j s.count h)

-- ---- a hop's place says where it stands

-- the place of hop j among segments that are numbered from n on
record PlacedFrom (n : ℕ) (ss : List SegmentHead) (j : ℕ) (p : HopPlace) : Type 0 where
  segment_low : n ≤ p.segment
  segment_there : p.segment - n < length ss
  head_is : p.head ≡ get_or ss (p.segment - n) no_segment
  inside : p.index < p.head.count
  from_start : hops_of (take (p.segment - n) ss) + p.index ≡ j

-- with one more segment in front
one_more : (n : ℕ) (s : SegmentHead) (ss : List SegmentHead) (j : ℕ) (p : HopPlace) → s.count ≤ j → PlacedFrom (n + 1) ss (j - s.count) p → PlacedFrom n (s ∷ ss) j p
one_more n s ss j p g r =
    let i = p.segment - (n + 1) in
    let next : p.segment - n ≡ suc i = omega (arith, r.segment_low) in
    record {
      segment_low = omega (arith, r.segment_low);
      segment_there = omega (arith, next, r.segment_there);
      head_is = r.head_is ∙ ap (λ k. get_or (s ∷ ss) k no_segment) (sym next);
      inside = r.inside;
      from_start = ap (λ k. hops_of (take k (s ∷ ss)) + p.index) next ∙ ap (λ m. m + p.index) (hops_of-cons s (take i ss)) ∙ omega (arith, r.from_start, g);
    }

placed_from : (n : ℕ) (ss : List SegmentHead) (j : ℕ) → j < hops_of ss → PlacedFrom n ss j (place_from n ss j)
placed_from n [] j h = absurd (omega (arith, hops_of-nil, h))
placed_from n (s ∷ ss) j h =
    ⊎_elim
    (λ l. let here = place_from_here n s ss j l in
    let none : n - n ≡ 0 = omega arith in
    subst (PlacedFrom n (s ∷ ss) j) (sym here) (record {
      segment_low = omega arith;
      segment_there = omega arith;
      head_is = ap (λ i. get_or (s ∷ ss) i no_segment) (sym none);
      inside = l;
      from_start = ap (λ i. hops_of (take i (s ∷ ss)) + j) none ∙ ap (λ m. m + j) hops_of-nil ∙ zero-add j;
    }))
    (λ g. let rest = placed_from (n + 1) ss (j - s.count) (omega (arith, hops_of-cons s ss, h, g)) in
    let later = place_from_later n s ss j g in
    subst (PlacedFrom n (s ∷ ss) j) (sym later) (one_more n s ss j (place_from (n + 1) ss (j - s.count)) g rest))
    (cases_lt j s.count)

placed : (ss : List SegmentHead) (j : ℕ) → j < hops_of ss → IsPlaceOf ss j (place ss j)
unfolding place
placed ss j h =
    let r = placed_from 0 ss j h in
    let p = place_from 0 ss j in
    let same : p.segment - 0 ≡ p.segment = omega arith in
    record {
      segment_there = omega (arith, r.segment_there);
      head_is = r.head_is ∙ ap (λ i. get_or ss i no_segment) same;
      inside = r.inside;
      from_start = ap (λ i. hops_of (take i ss) + p.index) (sym same) ∙ r.from_start;
    }

filled_from : (n : ℕ) (ss : List SegmentHead) (i k : ℕ) → i < length ss → k < (get_or ss i no_segment).count
    → place_from n ss (hops_before ss i + k) ≡ record { segment = n + i; head = get_or ss i no_segment; index = k }
filled_from n [] i k h l = absurd (omega arith)
filled_from n (s ∷ ss) zero k h l =
    let start : hops_before (s ∷ ss) 0 + k ≡ k = ap (λ m. m + k) hops_of-nil ∙ zero-add k in
    let first : n ≡ n + 0 = omega arith in
    ap (place_from n (s ∷ ss)) start ∙ place_from_here n s ss k l ∙ (λ x. record { segment = first x; head = s; index = k })
filled_from n (s ∷ ss) (suc i) k h l =
    let before = hops_of-cons s (take i ss) in
    let more : s.count ≤ hops_before (s ∷ ss) (suc i) + k = omega (arith, before) in
    let rest : hops_before (s ∷ ss) (suc i) + k - s.count ≡ hops_before ss i + k = omega (arith, before) in
    let number : n + 1 + i ≡ n + suc i = omega arith in
    place_from_later n s ss (hops_before (s ∷ ss) (suc i) + k) more
    ∙ ap (place_from (n + 1) ss) rest
    ∙ filled_from (n + 1) ss i k (omega (arith, h)) l
    ∙ (λ x. record { segment = number x; head = get_or ss i no_segment; index = k })

pub places_are_one : (ss : List SegmentHead) → PlacesAreOne ss
unfolding place
places_are_one ss = record {
  placed = placed ss;
  filled = λ i k h l. filled_from 0 ss i k h l ∙ (λ x. record { segment = zero-add i x; head = get_or ss i no_segment; index = k });
}

-- ---- neighbours

-- the place before a place of the same segment
abbrev pub previous : HopPlace → HopPlace
previous p = record p { index = p.index - 1 }

not_first : (p : HopPlace) → is_first p ≡ false → 0 < p.index
unfolding is_first
not_first p e = omega (arith, eqb-false p.index 0 e)

-- the hop before one that isn't first stands at the place before
pub hop_before : (ss : List SegmentHead) (j : ℕ) → j < hops_of ss → is_first (place ss j) ≡ false → (0 < j) × (place ss (j - 1) ≡ previous (place ss j))
hop_before ss j h e =
    let p = place ss j in
    let at = placed ss j h in
    let some = not_first p e in
    let within : p.index - 1 < (get_or ss p.segment no_segment).count = omega (arith, at.inside, ap (λ s. s.count) at.head_is, some) in
    let here : hops_before ss p.segment + (p.index - 1) ≡ j - 1 = omega (arith, at.from_start, some) in
    let head = sym at.head_is in (
      omega (arith, at.from_start, some),
      ap (place ss) (sym here) ∙ (places_are_one ss).filled p.segment (p.index - 1) at.segment_there within ∙ (λ i. record { segment = p.segment; head = head i; index = p.index - 1 }),
    )

-- positions and successors of a place and the one before
forward : (p q : HopPlace) (j : ℕ) → q ≡ previous p → p.head.against ≡ false → 0 < p.index → p.index < p.head.count → 0 < j
    → (position p ≡ position q + 1) × (successor q (j - 1) ≡ Some j)
unfolding position successor
forward p q j e a some inside more =
    let index = p.index in
    let count = p.head.count in
    let here : (if p.head.against then count - index else index + 1) ≡ index + 1 = cond-false _ _ _ a in
    let before : (if p.head.against then count - (index - 1) else index - 1 + 1) ≡ index = cond-false {A = ℕ} p.head.against (count - (index - 1)) (index - 1 + 1) a ∙ omega (arith, some) in
    let not_last = ne_eqb index count (λ same. omega (arith, same, inside)) in
    let on : (if p.head.against then j - 1 - 1 else j - 1 + 1) ≡ j = cond-false {A = ℕ} p.head.against (j - 1 - 1) (j - 1 + 1) a ∙ omega (arith, more) in (
      here ∙ ap (λ n. n + 1) (sym before) ∙ ap (λ r. position r + 1) (sym e),
      ap (λ r. successor r (j - 1)) e
          ∙ cond-false _ _ _ (ap (λ n. n == count) before ∙ not_last)
          ∙ ap Some on,
    )

pub backward : (p q : HopPlace) (j : ℕ) → q ≡ previous p → p.head.against ≡ true → 0 < p.index → p.index < p.head.count
    → (position q ≡ position p + 1) × (successor p j ≡ Some (j - 1))
unfolding position successor
backward p q j e a some inside =
    let index = p.index in
    let count = p.head.count in
    let here : (if p.head.against then count - index else index + 1) ≡ count - index = cond-true _ _ _ a in
    let before : (if p.head.against then count - (index - 1) else index - 1 + 1) ≡ count - index + 1 = cond-true {A = ℕ} p.head.against (count - (index - 1)) (index - 1 + 1) a ∙ omega (arith, some, inside) in
    let not_last = ne_eqb (count - index) count (λ same. omega (arith, same, some, inside)) in (
      ap position e ∙ before ∙ ap (λ n. n + 1) (sym here),
      cond-false _ _ _ (ap (λ n. n == count) here ∙ not_last) ∙ ap Some (cond-true _ _ _ a),
    )

either : {P Q : Type 0} (b : Bool) → (b ≡ true → P) → (b ≡ false → Q) → MatchBool b P Q
either true f g = f refl
either false f g = g refl

pub neighbours_follow : NeighboursFollow
neighbours_follow ss j h e =
    let p = place ss j in
    let at = placed ss j h in
    let step = hop_before ss j h e in
    let some = not_first p e in
    let segment : (place ss (j - 1)).segment ≡ p.segment = ap (λ q. q.segment) step.1 in
    let head : (place ss (j - 1)).head ≡ p.head = ap (λ q. q.head) step.1 in (
      step.0,
      either p.head.against
          (λ a. let facts = backward p (place ss (j - 1)) j step.1 a some at.inside in
          record { same_segment = sym segment; same_head = sym head; positions = facts.0; next = facts.1 })
          (λ a. let facts = forward p (place ss (j - 1)) j step.1 a some at.inside step.0 in
          record { same_segment = segment; same_head = head; positions = facts.0; next = facts.1 }),
    )
