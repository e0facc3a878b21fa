-- Paths from a head: there is one, its nodes differ, and the list of the head is it.
use Rattle.std.proofs.Common.{◌≡◌, ℕ, zero, suc, ◌+◌, ◌<◌, ◌≤◌, refl, sym, ◌∙◌, ap, subst, List, [], ◌∷◌, length, get_or, Bool, true, false, ◌||◌, eqb, ltb, inl, inr, arith}
use Rattle.std.specs.List.{IsDistinct, AllByRecursion, list_any}
use Rattle.std.proofs.lemmas.Bool.{cond-true, cond-false, lt-ltb, le-ltb, eqb-true, cases_Bool, or_parts}
use Rattle.std.proofs.lemmas.Map.Steps.{length-le_from_distinct_below}
use Rattle.epic_pool.specs.Rings.{Path, nodes_after, ring}

pub path_is : (base : ℕ) (next xs : List ℕ) (a b n : ℕ) → Path base next a xs b → b < base → length xs ≤ n → nodes_after base next n a ≡ xs
unfolding Path nodes_after
path_is base next [] a b zero p lt le = refl
path_is base next [] a b (suc n) p lt le =
    cond-true (ltb (get_or next a 0) base) [] (get_or next a 0 ∷ nodes_after base next n (get_or next a 0)) (lt-ltb (get_or next a 0) base (subst (λ (k : ℕ). k < base) (sym p) lt))
path_is base next (x ∷ xs) a b zero p lt le = absurd (omega arith)
path_is base next (x ∷ xs) a b (suc n) p lt le =
    cond-false (ltb (get_or next a 0) base) [] (get_or next a 0 ∷ nodes_after base next n (get_or next a 0)) (le-ltb (get_or next a 0) base (subst (λ (k : ℕ). base ≤ k) (sym p.0) p.1))
    ∙ ap (λ (k : ℕ). k ∷ nodes_after base next n k) p.0
    ∙ ap (λ (r : List ℕ). x ∷ r) (path_is base next xs x b n p.2 lt (omega arith))

pub same_path : (base : ℕ) (next xs ys : List ℕ) (a b : ℕ) → Path base next a xs b → Path base next a ys b → b < base → xs ≡ ys
same_path base next xs ys a b p q lt =
    sym (path_is base next xs a b (length xs + length ys) p lt (omega arith)) ∙ path_is base next ys a b (length xs + length ys) q lt (omega arith)

-- the rest of a path behind a node on it
rest_of : (base : ℕ) (next xs : List ℕ) (a b q : ℕ) → Path base next a xs b → list_any (eqb q) xs ≡ true → (ys : List ℕ) × (Path base next q ys b × (length ys < length xs))
unfolding Path
rest_of base next [] a b q p e = absurd (cc)
rest_of base next (x ∷ xs) a b q p e = elim (cases_Bool (eqb q x)) [
  | inl is ↦ (xs, (subst (λ (k : ℕ). Path base next k xs b) (sym (eqb-true q x is)) p.2, omega arith))
  | inr other ↦
      let h : list_any (eqb q) xs ≡ true = ap (λ (t : Bool). t || list_any (eqb q) xs) (sym other) ∙ e in
      let r = rest_of base next xs x b q p.2 h in
      (r.0, (r.1.0, omega (arith, r.1.1)))
]

apart : (base : ℕ) (next xs : List ℕ) (a b : ℕ) → Path base next a xs b → b < base → list_any (eqb a) xs ≡ false
apart base next xs a b p lt = elim (cases_Bool (list_any (eqb a) xs)) [
  | inl is ↦
      let r = rest_of base next xs a b a p is in
      let same = ap length (same_path base next xs r.0 a b p r.1.0 lt) in
      absurd (omega (arith, same, r.1.1))
  | inr other ↦ other
]

none_from_any : (x : ℕ) (xs : List ℕ) → list_any (eqb x) xs ≡ false → AllByRecursion (λ y. eqb x y ≡ false) xs
none_from_any x [] e = tt
none_from_any x (y ∷ ys) e = let h = or_parts (eqb x y) (list_any (eqb x) ys) e in (h.0, none_from_any x ys h.1)

distinct : (base : ℕ) (next xs : List ℕ) (a b : ℕ) → Path base next a xs b → b < base → IsDistinct eqb xs
unfolding Path IsDistinct
distinct base next [] a b p lt = tt
distinct base next (x ∷ xs) a b p lt = (none_from_any x xs (apart base next xs x b p.2 lt), distinct base next xs x b p.2 lt)

inside : (base : ℕ) (next xs : List ℕ) (a b q : ℕ) → ((i : ℕ) → i < length next → get_or next i 0 < length next) → a < length next → Path base next a xs b → list_any (eqb q) xs ≡ true → q < length next
unfolding Path
inside base next [] a b q h lt p e = absurd (cc)
inside base next (x ∷ xs) a b q h lt p e =
    let there : x < length next = subst (λ (k : ℕ). k < length next) p.0 (h a lt) in
    elim (cases_Bool (eqb q x)) [
      | inl is ↦ subst (λ (k : ℕ). k < length next) (sym (eqb-true q x is)) there
      | inr other ↦ inside base next xs x b q h there p.2 (ap (λ (t : Bool). t || list_any (eqb q) xs) (sym other) ∙ e)
    ]

-- the list of a head is its path
pub ring_is : (base : ℕ) (next xs : List ℕ) (a b : ℕ) → ((i : ℕ) → i < length next → get_or next i 0 < length next) → a < length next → Path base next a xs b → b < base → ring base next a ≡ xs
unfolding ring
ring_is base next xs a b h lt p le =
    path_is base next xs a b (length next) p le (length-le_from_distinct_below xs (length next) (distinct base next xs a b p le) (λ q e. inside base next xs a b q h lt p e))

-- the first of a list is not met again
pub first_once : (base : ℕ) (next xs : List ℕ) (x a b : ℕ) → Path base next a (x ∷ xs) b → b < base → list_any (eqb x) xs ≡ false
unfolding Path
first_once base next xs x a b p lt = apart base next xs x b p.2 lt

-- a list has no more nodes than there are indices
nodes_short : (base : ℕ) (next : List ℕ) (n from : ℕ) → length (nodes_after base next n from) ≤ n
unfolding nodes_after
nodes_short base next zero from = omega arith
nodes_short base next (suc n) from = elim (cases_Bool (ltb (get_or next from 0) base)) [
  | inl is ↦
      subst (λ (xs : List ℕ). length xs ≤ suc n) (sym (cond-true (ltb (get_or next from 0) base) [] (get_or next from 0 ∷ nodes_after base next n (get_or next from 0)) is)) (omega arith)
  | inr other ↦
      let h = nodes_short base next n (get_or next from 0) in
      subst (λ (xs : List ℕ). length xs ≤ suc n) (sym (cond-false (ltb (get_or next from 0) base) [] (get_or next from 0 ∷ nodes_after base next n (get_or next from 0)) other)) (omega (arith, h))
]

pub ring_short : (base : ℕ) (next : List ℕ) (l : ℕ) → length (ring base next l) ≤ length next
unfolding ring
ring_short base next l = nodes_short base next (length next) l
