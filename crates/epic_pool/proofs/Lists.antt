-- The lists of a family after one of them, or all, have changed; and what a filter by one node leaves.
use Rattle.std.proofs.Common.{◌≡◌, ℕ, ◌<◌, refl, sym, ◌∙◌, ap, List, [], ◌∷◌, ◌++◌, length, get_or, set, map, inl, inr, false, not, eqb, arith, get_or-set_same, get_or-set_other}
use Rattle.std.specs.List.{All, filter, list_any}
use Rattle.std.proofs.Math.ListN.{length-set}
use Rattle.std.proofs.lemmas.Bool.{cases_eq, or_parts, eqb-false, not-true}
use Rattle.std.proofs.lemmas.List.{length-map, get_or-map}
use Rattle.std.proofs.lemmas.List.Elements.{All-head, All-tail, filter_passes}
use Rattle.std.proofs.lemmas.List.FromFn.{length-map-range_with_len, get_or-map-range_with_len, fill_by_all}
use Rattle.epic_pool.specs.Inside.{lists_of}
use Rattle.epic_pool.specs.Rings.{ring}
use Rattle.epic_pool.proofs.Unlinking.{filter_in}

pub length-lists_of : (base : ℕ) (next : List ℕ) (n : ℕ) → length (lists_of base next n) ≡ n
unfolding lists_of
length-lists_of base next n = length-map-range_with_len (ring base next) 0 n

pub list_is : (base : ℕ) (next : List ℕ) (n l : ℕ) → l < n → get_or (lists_of base next n) l [] ≡ ring base next l
unfolding lists_of
list_is base next n l lt = get_or-map-range_with_len (ring base next) 0 n l l [] lt (omega arith)

pub lists_same : (base : ℕ) (next after : List ℕ) (n : ℕ) → ((l : ℕ) → l < n → ring base after l ≡ ring base next l) → lists_of base next n ≡ lists_of base after n
unfolding lists_of
lists_same base next after n h =
    fill_by_all (ring base after) (lists_of base next n) n [] (length-lists_of base next n) (λ k lt. list_is base next n k lt ∙ sym (h k lt))

pub lists_appended : (base : ℕ) (next after : List ℕ) (n l node : ℕ) → l < n → ring base after l ≡ ring base next l ++ node ∷ [] → ((k : ℕ) → k < n → (k ≡ l → ⊥) → ring base after k ≡ ring base next k)
    → lists_of base after n ≡ set (lists_of base next n) l (get_or (lists_of base next n) l [] ++ node ∷ [])
unfolding lists_of
lists_appended base next after n l node lt at_l others =
    sym
    (fill_by_all
    (ring base after)
    (set (lists_of base next n) l (get_or (lists_of base next n) l [] ++ node ∷ []))
    n
    []
    (length-set (lists_of base next n) l (get_or (lists_of base next n) l [] ++ node ∷ []) ∙ length-lists_of base next n)
    each)
  where
    there : l < length (lists_of base next n)
    there = omega (arith, length-lists_of base next n)

    each : (k : ℕ) → k < n → get_or (set (lists_of base next n) l (get_or (lists_of base next n) l [] ++ node ∷ [])) k [] ≡ ring base after k
    each k lk = elim (cases_eq k l) [
      | inl e ↦
          ap (λ (i : ℕ). get_or (set (lists_of base next n) l (get_or (lists_of base next n) l [] ++ node ∷ [])) i []) e
          ∙ get_or-set_same (lists_of base next n) l (get_or (lists_of base next n) l [] ++ node ∷ []) [] there
          ∙ ap (λ (xs : List ℕ). xs ++ node ∷ []) (list_is base next n l lt)
          ∙ sym at_l
          ∙ ap (ring base after) (sym e)
      | inr ne ↦
          get_or-set_other (lists_of base next n) l k (get_or (lists_of base next n) l [] ++ node ∷ []) [] ne
          ∙ list_is base next n k lk
          ∙ sym (others k lk ne)
    ]

pub lists_without : (base : ℕ) (next after : List ℕ) (n node : ℕ) → ((k : ℕ) → k < n → ring base after k ≡ filter (λ x. not (eqb x node)) (ring base next k))
    → lists_of base after n ≡ map (filter (λ x. not (eqb x node))) (lists_of base next n)
unfolding lists_of
lists_without base next after n node h =
    sym
    (fill_by_all
    (ring base after)
    (map (filter (λ x. not (eqb x node))) (lists_of base next n))
    n
    []
    (length-map (lists_of base next n) (filter (λ x. not (eqb x node))) ∙ length-lists_of base next n)
    (λ k lt.
    let there : k < length (lists_of base next n) = omega (arith, length-lists_of base next n) in
    get_or-map (filter (λ x. not (eqb x node))) (lists_of base next n) k [] [] there
    ∙ ap (filter (λ x. not (eqb x node))) (list_is base next n k lt)
    ∙ sym (h k lt)))

-- a filter by a node that isn't there keeps all
pub filter_absent : (node : ℕ) (xs : List ℕ) → All (λ (x : ℕ). x ≡ node → ⊥) xs → filter (λ x. not (eqb x node)) xs ≡ xs
filter_absent node [] h = refl
filter_absent node (x ∷ xs) h =
    filter_in node x xs (All-head (λ (x : ℕ). x ≡ node → ⊥) x xs h) ∙ ap (λ (ys : List ℕ). x ∷ ys) (filter_absent node xs (All-tail (λ (x : ℕ). x ≡ node → ⊥) x xs h))

pub filter_unmet : (node : ℕ) (xs : List ℕ) → list_any (eqb node) xs ≡ false → filter (λ x. not (eqb x node)) xs ≡ xs
filter_unmet node [] h = refl
filter_unmet node (x ∷ xs) h =
    let parts = or_parts (eqb node x) (list_any (eqb node) xs) h in
    filter_in node x xs (λ e. eqb-false node x parts.0 (sym e)) ∙ ap (λ (ys : List ℕ). x ∷ ys) (filter_unmet node xs parts.1)

-- what a filter by a node keeps is another
pub kept_differ : (node : ℕ) (xs : List ℕ) → All (λ (x : ℕ). x ≡ node → ⊥) (filter (λ x. not (eqb x node)) xs)
kept_differ node xs k d lt =
    eqb-false (get_or (filter (λ x. not (eqb x node)) xs) k d) node
    (not-true (eqb (get_or (filter (λ x. not (eqb x node)) xs) k d) node) (filter_passes (λ x. not (eqb x node)) xs k d lt))
