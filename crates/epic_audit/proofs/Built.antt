-- The hops of a segment in construction order, and where they stand.
use Rattle.std.proofs.Common.{◌≡◌, ℕ, ◌+◌, ◌-◌, ◌<◌, Bool, true, false, List, length, get_or, refl, ap, sym, ◌∙◌, arith}
use Rattle.std.specs.Prelude.{Some, slice_get, reverse, if◌then◌else◌}
use Rattle.std.specs.List.{range_with_len}
use Rattle.std.proofs.lemmas.Bool.{cond-true, cond-false, ne_eqb, eq-eqb}
use Rattle.std.proofs.lemmas.List.{length-reverse, get_or-reverse}
use Rattle.std.proofs.lemmas.List.FromFn.{length-range_with_len, get_or-range_with_len}
use Rattle.std.proofs.lemmas.Option.{slice_get_within, get_or_from_slice_get}
use Rattle.epic_layout.specs.declared.head.SegmentHead.{SegmentHead}
use Rattle.epic_layout.specs.declared.head.HopPlace.{HopPlace}
use Rattle.epic_layout.specs.Laws.{hops_before}
use Rattle.epic_layout.specs.Route.{no_segment, place, position, successor, is_first, is_last}
use Rattle.epic_layout.proofs.HopPlaces.{places_are_one}
use Rattle.epic_audit.specs.Chain.{travelled, built}

-- in travel order
travelled_at : (segments : List SegmentHead) (i m j : ℕ) → slice_get (travelled segments i) m ≡ Some j
    → (m < (get_or segments i no_segment).count) × (hops_before segments i + m ≡ j)
unfolding travelled
travelled_at segments i m j e =
    let b = hops_before segments i in
    let c = (get_or segments i no_segment).count in
    let lt : m < c = omega (arith, slice_get_within (range_with_len b c) m j e, length-range_with_len b c) in
    (lt, sym (get_or-range_with_len b c m 0 lt) ∙ get_or_from_slice_get (range_with_len b c) m j 0 e)

-- against it
turned_at : (segments : List SegmentHead) (i m j : ℕ) → slice_get (reverse (travelled segments i)) m ≡ Some j
    → (m < (get_or segments i no_segment).count) × (hops_before segments i + ((get_or segments i no_segment).count - 1 - m) ≡ j)
unfolding travelled
turned_at segments i m j e =
    let b = hops_before segments i in
    let c = (get_or segments i no_segment).count in
    let hops : List ℕ = range_with_len b c in
    let long : length hops ≡ c = length-range_with_len b c in
    let within : m < length (reverse hops) = slice_get_within (reverse hops) m j e in
    let lt : m < c = omega (arith, within, length-reverse hops, long) in
    let inside : m < length hops = omega arith in (
      lt,
      sym (get_or-range_with_len b c (c - 1 - m) 0 (omega arith))
          ∙ (ap (λ n. get_or hops (n - 1 - m) 0) (sym long)
          ∙ (sym (get_or-reverse hops m 0 inside)
          ∙ get_or_from_slice_get (reverse hops) m j 0 e)),
    )

-- hop j is the one of position m + 1 in its segment, and the index-th in travel order
pub record IsBuilt (segments : List SegmentHead) (i m j : ℕ) : Type 0 where
  pub index : ℕ
  pub inside : m < (get_or segments i no_segment).count
  pub index_is : index ≡ (if (get_or segments i no_segment).against then (get_or segments i no_segment).count - 1 - m else m)
  pub from_start : hops_before segments i + index ≡ j
  pub place_is : place segments j ≡ record { segment = i; head = get_or segments i no_segment; index = index }
  pub position_is : position (place segments j) ≡ m + 1

-- from its index
at_index : (segments : List SegmentHead) (i m j index : ℕ) → i < length segments → m < (get_or segments i no_segment).count
    → index < (get_or segments i no_segment).count
    → index ≡ (if (get_or segments i no_segment).against then (get_or segments i no_segment).count - 1 - m else m)
    → hops_before segments i + index ≡ j
    → (if (get_or segments i no_segment).against then (get_or segments i no_segment).count - index else index + 1) ≡ m + 1
    → IsBuilt segments i m j
unfolding position
at_index segments i m j index there lt inside is start pos =
    let at = ap (place segments) (sym start) ∙ (places_are_one segments).filled i index there inside in
    record { index = index; inside = lt; index_is = is; from_start = start; place_is = at; position_is = ap position at ∙ pos }

pub built_at : (segments : List SegmentHead) (i m j : ℕ) → i < length segments → slice_get (built segments i) m ≡ Some j → IsBuilt segments i m j
unfolding built
built_at segments i m j there e =
    let s = get_or segments i no_segment in
    elim s.against as (λ b. s.against ≡ b → slice_get (if b then reverse (travelled segments i) else travelled segments i) m ≡ Some j → IsBuilt segments i m j) [
      | true ↦ λ a at.
          (let t = turned_at segments i m j at in
          let lt = t.0 in
          at_index segments i m j (s.count - 1 - m) there lt (omega arith) (sym (cond-true _ _ _ a)) t.1
          (cond-true {A = ℕ} s.against (s.count - (s.count - 1 - m)) (s.count - 1 - m + 1) a ∙ omega arith))
      | false ↦ λ a at.
          (let t = travelled_at segments i m j at in
          at_index segments i m j m there t.0 t.0 (sym (cond-false _ _ _ a)) t.1 (cond-false _ _ _ a))
    ] refl e

-- ---- the next hop

on_from : (p : HopPlace) (m j : ℕ) → position p ≡ m + 1 → m + 1 < p.head.count → successor p j ≡ Some (if p.head.against then j - 1 else j + 1)
unfolding successor
on_from p m j at more = cond-false _ _ _ (ne_eqb (position p) p.head.count (λ e. omega arith))

stepped : (against : Bool) (b c m j k x y : ℕ) → m + 1 < c → x ≡ (if against then c - 1 - m else m) → y ≡ (if against then c - 1 - (m + 1) else m + 1)
    → b + x ≡ j → b + y ≡ k → (if against then j - 1 else j + 1) ≡ k
stepped true b c m j k x y more e f g h = omega arith
stepped false b c m j k x y more e f g h = omega arith

-- the hop at the next position is the successor
pub followed_by : (segments : List SegmentHead) (i m j k : ℕ) → IsBuilt segments i m j → IsBuilt segments i (m + 1) k
    → successor (place segments j) j ≡ Some k
followed_by segments i m j k x y =
    let s = get_or segments i no_segment in
    let head : (place segments j).head ≡ s = ap (λ (p : HopPlace). p.head) x.place_is in
    let count : (place segments j).head.count ≡ s.count = ap (λ (h : SegmentHead). h.count) head in
    let more : m + 1 < s.count = y.inside in
    on_from (place segments j) m j x.position_is (omega arith)
    ∙ ap Some
    (ap (λ (h : SegmentHead). if h.against then j - 1 else j + 1) head
    ∙ stepped s.against (hops_before segments i) s.count m j k x.index y.index more x.index_is y.index_is x.from_start y.from_start)

-- ---- the last hop

-- the last in construction order is the first or the last in travel order
pub ends_first : (segments : List SegmentHead) (i m j : ℕ) → IsBuilt segments i m j → m + 1 ≡ (get_or segments i no_segment).count
    → (get_or segments i no_segment).against ≡ true → is_first (place segments j) ≡ true
unfolding is_first
ends_first segments i m j x last a =
    let index : (place segments j).index ≡ x.index = ap (λ (p : HopPlace). p.index) x.place_is in
    let is : x.index ≡ (get_or segments i no_segment).count - 1 - m = x.index_is ∙ cond-true _ _ _ a in
    eq-eqb (place segments j).index 0 (omega arith)

pub ends_last : (segments : List SegmentHead) (i m j : ℕ) → IsBuilt segments i m j → m + 1 ≡ (get_or segments i no_segment).count
    → (get_or segments i no_segment).against ≡ false → is_last (place segments j) ≡ true
unfolding is_last
ends_last segments i m j x last a =
    let index : (place segments j).index ≡ x.index = ap (λ (p : HopPlace). p.index) x.place_is in
    let count : (place segments j).head.count ≡ (get_or segments i no_segment).count = ap (λ (p : HopPlace). p.head.count) x.place_is in
    let is : x.index ≡ m = x.index_is ∙ cond-false _ _ _ a in
    eq-eqb ((place segments j).index + 1) (place segments j).head.count (omega arith)
