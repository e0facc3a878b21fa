-- A live node is taken out of both its lists, and is unused again.
use Rattle.std.proofs.Common.{◌≡◌, ℕ, ◌+◌, ◌<◌, ◌≤◌, ◌^◌, sym, ◌∙◌, ap, subst, List, [], ◌∷◌, ◌++◌, length, get_or, set, map, None, Option, inl, inr, not, eqb, arith, get_or-set_same, get_or-set_other, length-set, length-append}
use Rattle.std.specs.Prelude.{IsSome, is_some}
use Rattle.std.specs.List.{All, filter}
use Rattle.std.proofs.lemmas.Bool.{cases_eq, cases_lt, true≢false}
use Rattle.std.proofs.lemmas.List.Elements.{All-push, All-filter, All-same}
use Rattle.epic_pool.specs.Inside.{lists_of, IsPool}
use Rattle.epic_pool.specs.Rings.{ring, Linked, Unlinked}
use Rattle.epic_pool.proofs.Listed.{listed_still}
use Rattle.epic_pool.proofs.Lists.{lists_without, filter_absent, kept_differ}
use Rattle.epic_pool.proofs.Paths.{ring_short}
use Rattle.epic_pool.proofs.Values.{differ_from_live, live_inside, others_kept}

below : (a b : ℕ) → a ≤ b → b < 2 ^ 32 → a < 2 ^ 32
below a b le lt = omega arith

module _ {T : Type 0} (base la lb node : ℕ) (na pa nb pb : List ℕ) (values : List (Option T)) (p : IsPool base la lb na pa nb pb values) (live : IsSome (get_or values node None)) where
  pub node_in : base ≤ node
  node_in = elim (cases_lt node base) [
    | inl lt ↦ absurd (true≢false (sym live ∙ ap (λ (o : Option T). is_some o) (p.heads_empty node lt)))
    | inr le ↦ le
  ]

  pub node_there : node < length na
  node_there = let h = live_inside values node live in let e = p.values_length in omega arith

  module _ (na1 pa1 nb1 pb1 na2 pa2 : List ℕ) (u : Unlinked base node na na1 pa1) (v : Unlinked base node nb nb1 pb1) (l : Linked base la node na1 na2 pa2) where
    lists_a : (k : ℕ) → k < la → ring base na2 k ≡ filter (λ x. not (eqb x node)) (ring base na k)
    lists_a k lt =
        let g = p.heads_a in
        l.others k (omega arith) (λ e. omega arith) ∙ u.lists k (omega arith)

    lists_b : (k : ℕ) → k < lb → ring base nb1 k ≡ filter (λ x. not (eqb x node)) (ring base nb k)
    lists_b k lt = let g = p.heads_b in v.lists k (omega arith)

    unused_after : ring base na2 la ≡ ring base na la ++ node ∷ []
    unused_after =
        l.appended
        ∙ ap (λ (xs : List ℕ). xs ++ node ∷ []) (u.lists la p.heads_a ∙ filter_absent node (ring base na la) (differ_from_live values node live (ring base na la) p.unused))

    pub removed_a : lists_of base na2 la ≡ map (filter (λ x. not (eqb x node))) (lists_of base na la)
    removed_a = lists_without base na na2 la node lists_a

    pub removed_b : lists_of base nb1 lb ≡ map (filter (λ x. not (eqb x node))) (lists_of base nb lb)
    removed_b = lists_without base nb nb1 lb node lists_b

    pub removed_spare : length (ring base na2 la) ≡ length (ring base na la) + 1
    removed_spare = let e = ap length unused_after in omega (arith, e, length-append (ring base na la) (node ∷ []))

    kept : (xs : List ℕ) → All (λ (x : ℕ). IsSome (get_or values x None)) xs → All (λ (x : ℕ). IsSome (get_or (set values node None) x None)) (filter (λ x. not (eqb x node)) xs)
    kept xs h =
        others_kept values node None (λ (o : Option T). IsSome o) (filter (λ x. not (eqb x node)) xs)
        (All-filter (λ x. not (eqb x node)) (λ (x : ℕ). IsSome (get_or values x None)) xs h)
        (kept_differ node xs)

    now_empty : get_or (set values node None) node None ≡ None
    now_empty = get_or-set_same values node None None (live_inside values node live)

    other : (i : ℕ) → IsSome (get_or (set values node None) i None) → i ≡ node → ⊥
    other i some is = true≢false (sym some ∙ ap (λ (o : Option T). is_some o) (ap (λ (k : ℕ). get_or (set values node None) k None) is ∙ now_empty))

    live_before : (i : ℕ) → IsSome (get_or (set values node None) i None) → IsSome (get_or values i None)
    live_before i some = ap (λ (o : Option T). is_some o) (sym (get_or-set_other values node i None None (other i some))) ∙ some

    -- so many nodes still have a number
    pub removed_fits : length (ring base na la) + 1 < 2 ^ 32
    removed_fits =
        let short = ring_short base na2 la in
        subst (λ (k : ℕ). k < 2 ^ 32) removed_spare (below (length (ring base na2 la)) (length na2) short (subst (λ (k : ℕ). k < 2 ^ 32) (sym (l.same_length ∙ u.same_length)) p.numbers))

    pub removed : IsPool base la lb na2 pa2 nb1 pb1 (set values node None)
    removed =
        let e1 = u.same_length in
        let e2 = l.same_length in
        let e3 = v.same_length in
        let e4 = p.same_length in
        let e5 = p.values_length in
        record {
          rings_a = l.rings;
          rings_b = v.rings;
          same_length = omega arith;
          values_length = length-set values node None ∙ omega arith;
          heads_a = p.heads_a;
          heads_b = p.heads_b;
          live_a = λ k lt. All-same (λ (x : ℕ). IsSome (get_or (set values node None) x None)) (ring base na2 k) (filter (λ x. not (eqb x node)) (ring base na k)) (lists_a k lt) (kept (ring base na k) (p.live_a k lt));
          live_b = λ k lt. All-same (λ (x : ℕ). IsSome (get_or (set values node None) x None)) (ring base nb1 k) (filter (λ x. not (eqb x node)) (ring base nb k)) (lists_b k lt) (kept (ring base nb k) (p.live_b k lt));
          unused =
              All-same (λ (x : ℕ). get_or (set values node None) x None ≡ None) (ring base na2 la) (ring base na la ++ node ∷ []) unused_after
              (All-push (λ (x : ℕ). get_or (set values node None) x None ≡ None) (ring base na la) node
              (others_kept values node None (λ (o : Option T). o ≡ None) (ring base na la) p.unused (differ_from_live values node live (ring base na la) p.unused))
              now_empty);
          alone = λ i le lt none. elim (cases_eq i node) [
            | inl is ↦ ap (λ (k : ℕ). get_or nb1 k 0) is ∙ v.apart ∙ sym is
            | inr ne ↦ v.alone i ne (p.alone i le (omega arith) (sym (get_or-set_other values node i None None ne) ∙ none))
          ];
          heads_empty = λ i lt.
              let h = node_in in
              get_or-set_other values node i None None (λ e. omega arith) ∙ p.heads_empty i lt;
          listed_a = λ i some. listed_still base na na2 la i node lists_a (other i some) (p.listed_a i (live_before i some));
          listed_b = λ i some. listed_still base nb nb1 lb i node lists_b (other i some) (p.listed_b i (live_before i some));
          numbers = subst (λ (k : ℕ). k < 2 ^ 32) (sym (l.same_length ∙ u.same_length)) p.numbers;
        }
