-- One more unused node.
use Rattle.std.proofs.Common.{◌≡◌, ℕ, ◌+◌, ◌<◌, ◌^◌, sym, ◌∙◌, ap, subst, List, [], ◌∷◌, ◌++◌, length, get_or, None, Option, inl, inr, arith, length-append}
use Rattle.std.specs.Prelude.{IsSome, is_some}
use Rattle.std.specs.List.{All}
use Rattle.std.proofs.lemmas.Bool.{cases_lt}
use Rattle.std.proofs.lemmas.List.Elements.{All-push, All-same}
use Rattle.std.proofs.lemmas.List.{get_or_past}
use Rattle.epic_pool.specs.Inside.{lists_of, IsPool}
use Rattle.epic_pool.specs.Rings.{ring, Linked, Grown}
use Rattle.epic_pool.proofs.Growing.{padded}
use Rattle.epic_pool.proofs.Listed.{listed_same}
use Rattle.epic_pool.proofs.Lists.{lists_same}
use Rattle.epic_pool.proofs.Paths.{ring_short}

module _ {T : Type 0} (base la lb node : ℕ) (na pa nb pb na1 pa1 nb1 pb1 na2 pa2 : List ℕ) (values : List (Option T)) (p : IsPool base la lb na pa nb pb values)
    (g : Grown base na na1 pa1) (h : Grown base nb nb1 pb1) (is : node ≡ length na) (l : Linked base la node na1 na2 pa2) (small : length na + 1 < 2 ^ 32) where
  same_a : (k : ℕ) → k < la → ring base na2 k ≡ ring base na k
  same_a k lt = let e = p.heads_a in l.others k (omega arith) (λ f. omega arith) ∙ g.lists k (omega arith)

  same_b : (k : ℕ) → k < lb → ring base nb1 k ≡ ring base nb k
  same_b k lt = let e = p.heads_b in h.lists k (omega arith)

  unused_after : ring base na2 la ≡ ring base na la ++ node ∷ []
  unused_after = l.appended ∙ ap (λ (xs : List ℕ). xs ++ node ∷ []) (g.lists la p.heads_a)

  pub added_a : lists_of base na2 la ≡ lists_of base na la
  added_a = sym (lists_same base na na2 la same_a)

  pub added_b : lists_of base nb1 lb ≡ lists_of base nb lb
  added_b = sym (lists_same base nb nb1 lb same_b)

  pub added_spare : length (ring base na2 la) ≡ length (ring base na la) + 1
  added_spare = let e = ap length unused_after in omega (arith, e, length-append (ring base na la) (node ∷ []))

  -- so many nodes still have a number
  pub added_fits : length (ring base na la) + 1 < 2 ^ 32
  added_fits = let short = ring_short base na la in omega arith

  as_before : (P : Option T → Type 0) (xs : List ℕ) → All (λ (x : ℕ). P (get_or values x None)) xs → All (λ (x : ℕ). P (get_or (values ++ None ∷ []) x None)) xs
  as_before P xs f k d lt = subst P (sym (padded values (get_or xs k d))) (f k d lt)

  pub added : IsPool base la lb na2 pa2 nb1 pb1 (values ++ None ∷ [])
  added =
      let e1 = g.same_length in
      let e2 = h.same_length in
      let e3 = l.same_length in
      let e4 = p.same_length in
      let e5 = p.values_length in
      let e6 = length-append values (None ∷ []) in
      record {
        rings_a = l.rings;
        rings_b = h.rings;
        same_length = omega arith;
        values_length = omega arith;
        heads_a = p.heads_a;
        heads_b = p.heads_b;
        live_a = λ k lt. All-same (λ (x : ℕ). IsSome (get_or (values ++ None ∷ []) x None)) (ring base na2 k) (ring base na k) (same_a k lt) (as_before (λ (o : Option T). IsSome o) (ring base na k) (p.live_a k lt));
        live_b = λ k lt. All-same (λ (x : ℕ). IsSome (get_or (values ++ None ∷ []) x None)) (ring base nb1 k) (ring base nb k) (same_b k lt) (as_before (λ (o : Option T). IsSome o) (ring base nb k) (p.live_b k lt));
        unused =
            All-same (λ (x : ℕ). get_or (values ++ None ∷ []) x None ≡ None) (ring base na2 la) (ring base na la ++ node ∷ []) unused_after
            (All-push (λ (x : ℕ). get_or (values ++ None ∷ []) x None ≡ None) (ring base na la) node
            (as_before (λ (o : Option T). o ≡ None) (ring base na la) p.unused)
            (padded values node ∙ get_or_past values node None (omega arith)));
        alone = λ i le lt none. elim (cases_lt i (length nb)) [
          | inl less ↦ h.alone i less (p.alone i le (omega arith) (sym (padded values i) ∙ none))
          | inr more ↦ let at : i ≡ length nb = omega arith in ap (λ (k : ℕ). get_or nb1 k 0) at ∙ h.apart ∙ sym at
        ];
        heads_empty = λ i lt. padded values i ∙ p.heads_empty i lt;
        listed_a = λ i some. listed_same base na na2 la i same_a (p.listed_a i (ap (λ (o : Option T). is_some o) (sym (padded values i)) ∙ some));
        listed_b = λ i some. listed_same base nb nb1 lb i same_b (p.listed_b i (ap (λ (o : Option T). is_some o) (sym (padded values i)) ∙ some));
        numbers = subst (λ (k : ℕ). k < 2 ^ 32) (sym (l.same_length ∙ g.same_length)) small;
      }
