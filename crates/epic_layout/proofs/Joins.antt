-- Where segments begin and end, and which hop comes next.
use Rattle.std.proofs.Common.{◌≡◌, ℕ, zero, suc, ◌+◌, ◌-◌, ◌<◌, ◌≤◌, Bool, true, false, List, [], ◌∷◌, length, take, get_or, refl, ap, sym, ◌∙◌, subst, ⊎_elim, arith, if◌then◌else◌}
use Rattle.std.specs.Prelude.{◌==◌, Some, None}
use Rattle.std.specs.List.{All}
use Rattle.std.proofs.lemmas.Bool.{cases_lt, cases_Bool, cond-true, cond-false, eq-eqb, ne_eqb, eqb-true, eqb-false}
use Rattle.epic_layout.specs.Route.{place, place_from, hops_of, position, successor, is_first, is_last, no_segment}
use Rattle.epic_layout.specs.Contents.{IsSegment}
use Rattle.epic_layout.specs.Laws.{hops_before, Follows, SuccessorsFollow, SegmentsJoin}
use Rattle.epic_layout.specs.declared.head.SegmentHead.{SegmentHead}
use Rattle.epic_layout.specs.declared.head.HopPlace.{HopPlace}
use Rattle.epic_layout.proofs.HopPlaces.{hops_of-cons, hops_of-nil, place_from_here, place_from_later, places_are_one, hop_before, backward}

-- hop 0 stands at the front of a segment, whatever the segments
index_of_none : (n : ℕ) (ss : List SegmentHead) → (place_from n ss 0).index ≡ 0
unfolding place_from
index_of_none n [] = refl
index_of_none n (s ∷ ss) =
    ⊎_elim (λ l. ap (λ p. p.index) (place_from_here n s ss 0 l))
    (λ g. let none : 0 - s.count ≡ 0 = omega arith in
    ap (λ p. p.index) (place_from_later n s ss 0 g ∙ ap (place_from (n + 1) ss) none) ∙ index_of_none (n + 1) ss)
    (cases_lt 0 s.count)

-- behind a place that is its segment's last, the index begins anew
index_behind : (n : ℕ) (ss : List SegmentHead) (j : ℕ) → (place_from n ss j).index + 1 ≡ (place_from n ss j).head.count → (place_from n ss (j + 1)).index ≡ 0
unfolding place_from
index_behind n [] j e = refl
index_behind n (s ∷ ss) j e =
    ⊎_elim
    (λ l. let here = place_from_here n s ss j l in
    let all : j + 1 ≡ s.count = ap (λ p. p.index + 1) (sym here) ∙ e ∙ ap (λ p. p.head.count) here in
    let none : j + 1 - s.count ≡ 0 = omega (arith, all) in
    ap (λ p. p.index) (place_from_later n s ss (j + 1) (omega (arith, all)) ∙ ap (place_from (n + 1) ss) none) ∙ index_of_none (n + 1) ss)
    (λ g. let later = place_from_later n s ss j g in
    let next : j + 1 - s.count ≡ j - s.count + 1 = omega (arith, g) in
    let same : (place_from (n + 1) ss (j - s.count)).index + 1 ≡ (place_from (n + 1) ss (j - s.count)).head.count = ap (λ p. p.index + 1) (sym later) ∙ e ∙ ap (λ p. p.head.count) later in
    ap (λ p. p.index) (place_from_later n s ss (j + 1) (omega (arith, g)) ∙ ap (place_from (n + 1) ss) next) ∙ index_behind (n + 1) ss (j - s.count) same)
    (cases_lt j s.count)

behind_last : (ss : List SegmentHead) (j : ℕ) → is_last (place ss j) ≡ true → is_first (place ss (j + 1)) ≡ true
unfolding place is_first is_last
behind_last ss j e =
    eq-eqb (place_from 0 ss (j + 1)).index 0 (index_behind 0 ss j (eqb-true ((place_from 0 ss j).index + 1) (place_from 0 ss j).head.count e))

-- the hops up to a place's end are no more than all hops
hops_up_to : (ss : List SegmentHead) (i : ℕ) → i < length ss → hops_before ss i + (get_or ss i no_segment).count ≤ hops_of ss
hops_up_to [] i h = absurd (omega arith)
hops_up_to (s ∷ ss) zero h = omega (arith, hops_of-nil, hops_of-cons s ss)
hops_up_to (s ∷ ss) (suc i) h = omega (arith, hops_of-cons s (take i ss), hops_of-cons s ss, hops_up_to ss i (omega (arith, h)))

-- a place isn't its segment's last: the next hop stands at the next index
next_place : (ss : List SegmentHead) (j : ℕ) → j < hops_of ss → is_last (place ss j) ≡ false
    → (j + 1 < hops_of ss) × (place ss (j + 1) ≡ record (place ss j) { index = (place ss j).index + 1 })
unfolding is_last
next_place ss j h e =
    let p = place ss j in
    let at = (places_are_one ss).placed j h in
    let more : p.index + 1 < p.head.count = omega (arith, at.inside, eqb-false (p.index + 1) p.head.count e) in
    let head = at.head_is in
    let count : p.head.count ≡ (get_or ss p.segment no_segment).count = ap (λ s. s.count) head in
    let there : hops_before ss p.segment + (p.index + 1) ≡ j + 1 = omega (arith, at.from_start) in (
      omega (arith, there, more, count, hops_up_to ss p.segment at.segment_there),
      ap (place ss) (sym there) ∙ (places_are_one ss).filled p.segment (p.index + 1) at.segment_there (omega (arith, more, count)) ∙ (λ i. record { segment = p.segment; head = sym head i; index = p.index + 1 }),
    )

behind_other : (ss : List SegmentHead) (j : ℕ) → j < hops_of ss → is_last (place ss j) ≡ false → (j + 1 < hops_of ss) × (is_first (place ss (j + 1)) ≡ false)
unfolding is_first
behind_other ss j h e =
    let next = next_place ss j h e in (
      next.0,
      ap (λ p. p.index == 0) next.1 ∙ ne_eqb ((place ss j).index + 1) 0 (λ same. omega (arith, same)),
    )

last_of_all : (ss : List SegmentHead) (j : ℕ) → j + 1 ≡ hops_of ss → is_last (place ss j) ≡ true
last_of_all ss j h =
    ⊎_elim (λ t. t) (λ f. absurd (omega (arith, h, (next_place ss j (omega (arith, h)) f).0))) (cases_Bool (is_last (place ss j)))

first_not_last : (ss : List SegmentHead) → All IsSegment ss → (j : ℕ) → j < hops_of ss → is_first (place ss j) ≡ true → is_last (place ss j) ≡ false
unfolding is_first is_last
first_not_last ss each j h e =
    let p = place ss j in
    let at = (places_are_one ss).placed j h in
    let least = (each p.segment no_segment at.segment_there).least in
    ne_eqb (p.index + 1) p.head.count (λ same. omega (arith, same, eqb-true p.index 0 e, least, ap (λ s. s.count) at.head_is))

pub segments_join : (ss : List SegmentHead) → SegmentsJoin ss
segments_join ss = record {
  behind_last = behind_last ss;
  behind_other = behind_other ss;
  last_of_all = last_of_all ss;
  first_not_last = first_not_last ss;
}

-- ---- successors

-- what a test that isn't met lets through
through : (c : Bool) (n k : ℕ) → (if c then None else Some n) ≡ Some k → (c ≡ false) × (n ≡ k)
through true n k e = absurd (cc)
through false n k e = (refl, cc)

-- the parts of a place in whose segment a hop comes next
successor_parts : (p : HopPlace) (j k : ℕ) → successor p j ≡ Some k → ((position p == p.head.count) ≡ false) × ((if p.head.against then j - 1 else j + 1) ≡ k)
unfolding successor
successor_parts p j k e = through (position p == p.head.count) (if p.head.against then j - 1 else j + 1) k e

along : (ss : List SegmentHead) (j k : ℕ) → j < hops_of ss → successor (place ss j) j ≡ Some k → (place ss j).head.against ≡ false → (k < hops_of ss) × Follows ss j k
unfolding position is_last
along ss j k h e a =
    let p = place ss j in
    let i = p.index in
    let count = p.head.count in
    let parts = successor_parts p j k e in
    let here : position p ≡ i + 1 = cond-false {A = ℕ} p.head.against (count - i) (i + 1) a in
    let not_last : (i + 1 == count) ≡ false = ap (λ n. n == count) (sym here) ∙ parts.0 in
    let next = next_place ss j h not_last in
    let number : j + 1 ≡ k = sym (cond-false {A = ℕ} p.head.against (j - 1) (j + 1) a) ∙ parts.1 in
    let later : position (place ss (j + 1)) ≡ position p + 1 = ap position next.1 ∙ cond-false {A = ℕ} p.head.against (count - (i + 1)) (i + 1 + 1) a ∙ ap (λ n. n + 1) (sym here) in
    let at_next : (j + 1 < hops_of ss) × Follows ss j (j + 1) = (
      next.0,
      record {
        same_segment = ap (λ q. q.segment) (sym next.1);
        same_head = ap (λ q. q.head) (sym next.1);
        positions = later;
        next = e ∙ ap Some (sym number);
      },
    ) in
    subst (λ m. (m < hops_of ss) × Follows ss j m) number at_next

against : (ss : List SegmentHead) (j k : ℕ) → j < hops_of ss → successor (place ss j) j ≡ Some k → (place ss j).head.against ≡ true → (k < hops_of ss) × Follows ss j k
unfolding position is_first
against ss j k h e a =
    let p = place ss j in
    let i = p.index in
    let count = p.head.count in
    let parts = successor_parts p j k e in
    let at = (places_are_one ss).placed j h in
    let here : position p ≡ count - i = cond-true {A = ℕ} p.head.against (count - i) (i + 1) a in
    let some : 0 < i = omega (arith, here, at.inside, eqb-false (position p) count parts.0) in
    let step = hop_before ss j h (ne_eqb i 0 (λ same. omega (arith, same, some))) in
    let number : j - 1 ≡ k = sym (cond-true {A = ℕ} p.head.against (j - 1) (j + 1) a) ∙ parts.1 in
    let at_next : (j - 1 < hops_of ss) × Follows ss j (j - 1) = (
      omega (arith, h),
      record {
        same_segment = ap (λ q. q.segment) (sym step.1);
        same_head = ap (λ q. q.head) (sym step.1);
        positions = (backward p (place ss (j - 1)) j step.1 a some at.inside).0;
        next = e ∙ ap Some (sym number);
      },
    ) in
    subst (λ m. (m < hops_of ss) × Follows ss j m) number at_next

pub successors_follow : SuccessorsFollow
successors_follow ss j k h e =
    ⊎_elim (against ss j k h e) (along ss j k h e) (cases_Bool (place ss j).head.against)
