-- Which lists have a node, after the lists have changed.
use Rattle.std.proofs.Common.{◌≡◌, ℕ, zero, suc, ◌<◌, sym, ◌∙◌, ap, subst, List, [], ◌∷◌, ◌++◌, length, map, inl, inr, not, eqb, arith}
use Rattle.std.specs.List.{Any, Contains, filter, range_with_len}
use Rattle.std.proofs.lemmas.Bool.{cases_eq}
use Rattle.std.proofs.lemmas.List.Elements.{Contains-push, Contains-append_left}
use Rattle.std.proofs.lemmas.List.FromFn.{get_or-map-range_with_len}
use Rattle.epic_pool.specs.Inside.{lists_of, IsListed}
use Rattle.epic_pool.specs.Rings.{ring}
use Rattle.epic_pool.proofs.Lists.{length-lists_of}
use Rattle.epic_pool.proofs.Unlinking.{filter_out, filter_in}

-- a filter by another node keeps a node
met_still : (node x : ℕ) (xs : List ℕ) → (x ≡ node → ⊥) → Contains xs x → Contains (filter (λ y. not (eqb y node)) xs) x
met_still node x [] ne (k, lt, e) = absurd (omega arith)
met_still node x (y ∷ ys) ne (zero, lt, e) =
    subst (λ (zs : List ℕ). Contains zs x) (sym (filter_in node y ys (λ f. ne (sym e ∙ f)))) (0, omega arith, e)
met_still node x (y ∷ ys) ne (suc k, lt, e) =
    let m : Contains (filter (λ z. not (eqb z node)) ys) x = met_still node x ys ne (k, omega arith, e) in
    elim (cases_eq y node) [
      | inl is ↦ subst (λ (zs : List ℕ). Contains zs x) (sym (filter_out node y ys is)) m
      | inr other ↦ subst (λ (zs : List ℕ). Contains zs x) (sym (filter_in node y ys other)) (suc m.0, omega (arith, m.1), m.2)
    ]

module _ (base : ℕ) (next after : List ℕ) (n i : ℕ) where
  pub listed_same : ((k : ℕ) → k < n → ring base after k ≡ ring base next k) → IsListed base n next i → IsListed base n after i
  listed_same h m = record {
    list = m.list;
    there = m.there;
    met = subst (λ (xs : List ℕ). Contains xs i) (sym (h m.list m.there)) m.met;
  }

  pub listed_appended : (l node : ℕ) → ring base after l ≡ ring base next l ++ node ∷ [] → ((k : ℕ) → k < n → (k ≡ l → ⊥) → ring base after k ≡ ring base next k) → IsListed base n next i → IsListed base n after i
  listed_appended l node at_l others m = elim (cases_eq m.list l) [
    | inl e ↦ record {
      list = m.list;
      there = m.there;
      met = subst (λ (xs : List ℕ). Contains xs i) (sym (ap (ring base after) e ∙ at_l)) (Contains-append_left (ring base next l) (node ∷ []) i (subst (λ (k : ℕ). Contains (ring base next k) i) e m.met));
    }
    | inr ne ↦ record {
      list = m.list;
      there = m.there;
      met = subst (λ (xs : List ℕ). Contains xs i) (sym (others m.list m.there ne)) m.met;
    }
  ]

  pub listed_new : (l : ℕ) → l < n → ring base after l ≡ ring base next l ++ i ∷ [] → IsListed base n after i
  listed_new l lt at_l = record {
    list = l;
    there = lt;
    met = subst (λ (xs : List ℕ). Contains xs i) (sym at_l) (Contains-push (ring base next l) i);
  }

  pub listed_still : (node : ℕ) → ((k : ℕ) → k < n → ring base after k ≡ filter (λ x. not (eqb x node)) (ring base next k)) → (i ≡ node → ⊥) → IsListed base n next i → IsListed base n after i
  listed_still node h ne m = record {
    list = m.list;
    there = m.there;
    met = subst (λ (xs : List ℕ). Contains xs i) (sym (h m.list m.there)) (met_still node i (ring base next m.list) ne m.met);
  }

-- so one of the lists has it
pub some_list : (base : ℕ) (next : List ℕ) (n i : ℕ) → IsListed base n next i → Any (λ (l : List ℕ). Contains l i) (lists_of base next n)
unfolding lists_of
some_list base next n i m =
    let inside : m.list < length (map (ring base next) (range_with_len 0 n)) = let e = length-lists_of base next n in let h = m.there in omega (arith, h, e) in (
      m.list,
      ring base next m.list,
      inside,
      get_or-map-range_with_len (ring base next) 0 n m.list m.list (ring base next m.list) m.there (omega arith),
      m.met,
    )
