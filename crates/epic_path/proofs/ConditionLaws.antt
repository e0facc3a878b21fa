-- One step of each test of segments.
use Rattle.std.proofs.Common.{◌≡◌, ℕ, ◌+◌, ◌-◌, ◌<◌, ◌≤◌, Bool, true, false, List, [], ◌∷◌, length, map, get_or, take, drop, refl, sym, ap, ◌∙◌, subst, arith}
use Rattle.std.specs.Prelude.{not, ◌&&◌, ◌||◌, ◌==◌, ◌↔◌, IsTrue, nat_eq}
use Rattle.std.specs.List.{AllByRecursion, IsDistinct, list_any}
use Rattle.std.proofs.lemmas.List.{at_drop_more, at_drop_all, length-drop, take_all}
use Rattle.epic_num.specs.declared.name.AsId.{AsId}
use Rattle.epic_num.specs.declared.segment.SegHop.{SegHop}
use Rattle.epic_num.specs.declared.segment.Segment.{Segment}
use Rattle.epic_num.specs.Same.{same_as}
use Rattle.epic_num.specs.Segments.{are_placed_from, are_different}
use Rattle.epic_path.specs.Routes.{last_issue}

place_of : (pos : ℕ) (h : SegHop) (rest : List SegHop) (here : Bool) → (h.body.pos == pos) ≡ here → are_placed_from pos (h ∷ rest) ≡ (here && are_placed_from (pos + 1) rest)
unfolding are_placed_from
place_of pos h rest here e = ap (λ b. b && are_placed_from (pos + 1) rest) e

pub placed_step : (hops : List SegHop) (i : ℕ) (d : SegHop) (pos : ℕ) (here : Bool) → i < length hops → pos ≡ (get_or hops i d).body.pos → (pos == i + 1) ≡ here → are_placed_from (i + 1) (drop i hops) ≡ (here && are_placed_from (i + 1 + 1) (drop (i + 1) hops))
placed_step hops i d pos here lt is e =
    at_drop_more (are_placed_from (i + 1)) hops i d lt ∙ place_of (i + 1) (get_or hops i d) (drop (i + 1) hops) here (ap (λ n. n == i + 1) (sym is) ∙ e)

pub placed_end : (hops : List SegHop) (i : ℕ) → length hops ≤ i → are_placed_from (i + 1) (drop i hops) ≡ true
unfolding are_placed_from
placed_end hops i le = at_drop_all (are_placed_from (i + 1)) hops i le

any_as : (a : AsId) (hops : List SegHop) → list_any (λ b. same_as a b) (map (λ h. h.asn) hops) ≡ list_any (λ h. same_as a h.asn) hops
any_as a [] = refl
any_as a (h ∷ hops) = ap (λ b. same_as a h.asn || b) (any_as a hops)

differ_of : (h : SegHop) (rest : List SegHop) (again : Bool) → list_any (λ g. same_as h.asn g.asn) rest ≡ again → are_different (map (λ g. g.asn) (h ∷ rest)) ≡ (not again && are_different (map (λ g. g.asn) rest))
unfolding are_different
differ_of h rest again e = ap (λ b. not b && are_different (map (λ g. g.asn) rest)) (any_as h.asn rest ∙ e)

-- a slice from an index on
rest_of : {X : Type 0} (n : ℕ) (xs : List X) → take (length xs - n) (drop n xs) ≡ drop n xs
rest_of n xs = take_all (length xs - n) (drop n xs) (omega (arith, length-drop n xs))

pub different_step : (hops : List SegHop) (i : ℕ) (d : SegHop) (a : AsId) (again : Bool) → i < length hops → a ≡ (get_or hops i d).asn → list_any (λ g. same_as a g.asn) (take (length hops - (i + 1)) (drop (i + 1) hops)) ≡ again → are_different (map (λ g. g.asn) (drop i hops)) ≡ (not again && are_different (map (λ g. g.asn) (drop (i + 1) hops)))
different_step hops i d a again lt is e =
    at_drop_more (λ hs. are_different (map (λ g. g.asn) hs)) hops i d lt
    ∙ differ_of (get_or hops i d) (drop (i + 1) hops) again (ap (λ b. list_any (λ g. same_as b g.asn) (drop (i + 1) hops)) (sym is) ∙ ap (list_any (λ g. same_as a g.asn)) (sym (rest_of (i + 1) hops)) ∙ e)

pub different_end : (hops : List SegHop) (i : ℕ) → length hops ≤ i → are_different (map (λ g. g.asn) (drop i hops)) ≡ true
unfolding are_different
different_end hops i le = at_drop_all (λ hs. are_different (map (λ g. g.asn) hs)) hops i le

apart : (issue : ℕ) (rest : List Segment) → list_any (λ s. issue == last_issue s) rest ≡ false → AllByRecursion (λ j. nat_eq issue j ≡ false) (map last_issue rest)
apart issue [] e = tt
apart issue (s ∷ rest) e =
    let T : Bool → Type 0 = λ b. (issue == last_issue s) ≡ b → (b || list_any (λ t. issue == last_issue t) rest) ≡ false → (nat_eq issue (last_issue s) ≡ false) × AllByRecursion (λ j. nat_eq issue j ≡ false) (map last_issue rest) in
    (elim (issue == last_issue s) as T [
      | true ↦ λ e f. absurd (cc)
      | false ↦ λ e f. (e, apart issue rest f)
    ]) refl e

not_apart : (issue : ℕ) (rest : List Segment) → AllByRecursion (λ j. nat_eq issue j ≡ false) (map last_issue rest) → list_any (λ s. issue == last_issue s) rest ≡ false
not_apart issue [] all = refl
not_apart issue (s ∷ rest) all = rw all.0 (not_apart issue rest all.1)

-- the issues from an index on differ exactly where all do
abbrev pub SameAnswer : List Segment → ℕ → Type 0
SameAnswer segments i = IsDistinct nat_eq (map last_issue (drop i segments)) ↔ IsDistinct nat_eq (map last_issue segments)

first_and_rest : (segments : List Segment) (i : ℕ) (s d : Segment) → i < length segments → s ≡ get_or segments i d → drop i segments ≡ s ∷ drop (i + 1) segments
first_and_rest segments i s d lt is = at_drop_more (λ ss. ss) segments i d lt ∙ ap (λ x. x ∷ drop (i + 1) segments) (sym is)

distinct_cons : (s : Segment) (rest : List Segment) → list_any (λ t. last_issue s == last_issue t) rest ≡ false → IsDistinct nat_eq (map last_issue (s ∷ rest)) ↔ IsDistinct nat_eq (map last_issue rest)
unfolding IsDistinct
distinct_cons s rest e = (λ all. all.1, λ later. (apart (last_issue s) rest e, later))

distinct_again : (s : Segment) (rest : List Segment) → list_any (λ t. last_issue s == last_issue t) rest ≡ true → IsDistinct nat_eq (map last_issue (s ∷ rest)) → ⊥
unfolding IsDistinct
distinct_again s rest e all = let none = not_apart (last_issue s) rest all.0 in cc

-- whether a later segment has the issue of one
again_is : (segments : List Segment) (i issue : ℕ) (s : Segment) (again : Bool) → issue ≡ last_issue s → list_any (λ t. issue == last_issue t) (take (length segments - (i + 1)) (drop (i + 1) segments)) ≡ again → list_any (λ t. last_issue s == last_issue t) (drop (i + 1) segments) ≡ again
again_is segments i issue s again e f =
    ap (λ n. list_any (λ t. n == last_issue t) (drop (i + 1) segments)) (sym e) ∙ ap (list_any (λ t. issue == last_issue t)) (sym (rest_of (i + 1) segments)) ∙ f

pub distinct_step : (segments : List Segment) (i issue : ℕ) (s d : Segment) → i < length segments → s ≡ get_or segments i d → issue ≡ last_issue s → list_any (λ t. issue == last_issue t) (take (length segments - (i + 1)) (drop (i + 1) segments)) ≡ false → SameAnswer segments i → SameAnswer segments (i + 1)
distinct_step segments i issue s d lt is of f all =
    let e = again_is segments i issue s false of f in
    let split = first_and_rest segments i s d lt is in
    let here = distinct_cons s (drop (i + 1) segments) e in
    let P : List Segment → Type 0 = λ ss. IsDistinct nat_eq (map last_issue ss) in
    (λ later. all.0 (subst P (sym split) (here.1 later)), λ whole. here.0 (subst P split (all.1 whole)))

pub distinct_stop : (segments : List Segment) (i issue : ℕ) (s d : Segment) → i < length segments → s ≡ get_or segments i d → issue ≡ last_issue s → list_any (λ t. issue == last_issue t) (take (length segments - (i + 1)) (drop (i + 1) segments)) ≡ true → SameAnswer segments i → IsTrue false ↔ IsDistinct nat_eq (map last_issue segments)
distinct_stop segments i issue s d lt is of f all =
    let e = again_is segments i issue s true of f in
    let P : List Segment → Type 0 = λ ss. IsDistinct nat_eq (map last_issue ss) in
    (λ wrong. absurd (cc), λ whole. absurd (distinct_again s (drop (i + 1) segments) e (subst P (first_and_rest segments i s d lt is) (all.1 whole))))

distinct_none : IsDistinct nat_eq (map last_issue [])
unfolding IsDistinct
distinct_none = tt

pub distinct_end : (segments : List Segment) (i : ℕ) → length segments ≤ i → SameAnswer segments i → IsTrue true ↔ IsDistinct nat_eq (map last_issue segments)
distinct_end segments i le all =
    let P : List Segment → Type 0 = λ ss. IsDistinct nat_eq (map last_issue ss) in
    (λ yes'. all.0 (subst P (sym (at_drop_all (λ ss. ss) segments i le)) distinct_none), λ whole. refl)
