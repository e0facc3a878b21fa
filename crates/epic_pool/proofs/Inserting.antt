-- A node with a value is put into a list of either family.
use Rattle.std.proofs.Common.{◌≡◌, ℕ, ◌+◌, ◌<◌, ◌≤◌, ◌^◌, refl, sym, ◌∙◌, ap, subst, List, [], ◌∷◌, ◌++◌, length, get_or, set, Some, None, Option, inl, inr, not, eqb, arith, get_or-set_same, get_or-set_other, length-set}
use Rattle.std.specs.Prelude.{IsSome, is_some}
use Rattle.std.specs.List.{All, filter}
use Rattle.std.proofs.lemmas.Bool.{cases_eq}
use Rattle.std.proofs.lemmas.List.Elements.{All-push, All-filter, All-same}
use Rattle.epic_pool.specs.Inside.{lists_of, node_after, IsListed, IsPool}
use Rattle.epic_pool.specs.Pool.{first_of}
use Rattle.epic_pool.specs.Rings.{Path, ring, Linked, Unlinked}
use Rattle.epic_pool.proofs.Listed.{listed_new, listed_appended}
use Rattle.epic_pool.proofs.Lists.{lists_appended, filter_absent, filter_unmet, kept_differ}
use Rattle.epic_pool.proofs.Paths.{first_once}
use Rattle.epic_pool.proofs.Readers.{path_first}
use Rattle.epic_pool.proofs.Unlinking.{filter_out}
use Rattle.epic_pool.proofs.Values.{differ, kept_live, others_kept}

-- the list whose first node is known
split_first : (xs : List ℕ) (node : ℕ) → first_of xs ≡ Some node → (ys : List ℕ) × (xs ≡ node ∷ ys)
split_first [] node e = absurd (cc)
split_first (x ∷ xs) node e = (xs, cc)

-- from here on `node` is the first of the unused ones
module _ {T : Type 0} (base la lb node : ℕ) (na pa nb pb : List ℕ) (values : List (Option T)) (p : IsPool base la lb na pa nb pb values)
    (found : node_after base na la ≡ Some node) where
  closed : Path base na la (ring base na la) la
  closed = let r = p.rings_a in r.closed la p.heads_a

  rest : (ys : List ℕ) × (ring base na la ≡ node ∷ ys)
  rest = split_first (ring base na la) node (sym (path_first base na (ring base na la) la la closed p.heads_a) ∙ found)

  to_first : Path base na la (node ∷ rest.0) la
  to_first = subst (λ (xs : List ℕ). Path base na la xs la) rest.1 closed

  pub node_in : base ≤ node
  unfolding Path
  node_in = to_first.1

  pub node_there : node < length na
  unfolding Path
  node_there =
      let r = p.rings_a in
      let h = r.heads in
      let g = p.heads_a in
      subst (λ (k : ℕ). k < length na) to_first.0 (r.next_inside la (omega arith))

  pub node_free : get_or values node None ≡ None
  node_free = subst (λ (xs : List ℕ). All (λ (x : ℕ). get_or values x None ≡ None) xs) rest.1 p.unused 0 node (omega arith)

  pub node_alone : get_or nb node 0 ≡ node
  node_alone = p.alone node node_in node_there node_free

  pub some_left : 1 ≤ length (ring base na la)
  some_left = let e = ap length rest.1 in omega (arith, e)

  pub in_values : node < length values
  in_values = let h = p.values_length in let g = node_there in omega arith

  module _ (na1 pa1 : List ℕ) (u : Unlinked base node na na1 pa1) where
    unmoved : (l : ℕ) → l < la → ring base na1 l ≡ ring base na l
    unmoved l lt =
        let g = p.heads_a in
        u.lists l (omega arith) ∙ filter_absent node (ring base na l) (differ values node node_free (ring base na l) (p.live_a l lt))

    unused_rest : ring base na1 la ≡ rest.0
    unused_rest =
        u.lists la p.heads_a
        ∙ ap (filter (λ x. not (eqb x node))) rest.1
        ∙ filter_out node node rest.0 refl
        ∙ filter_unmet node rest.0 (first_once base na rest.0 node la la to_first p.heads_a)

    module _ (a b : ℕ) (value : T) (na2 pa2 nb1 pb1 : List ℕ) (a_in : a < la) (b_in : b < lb) (l : Linked base a node na1 na2 pa2) (m : Linked base b node nb nb1 pb1) where
      unused_after : ring base na2 la ≡ rest.0
      unused_after = l.others la p.heads_a (λ e. omega arith) ∙ unused_rest

      pub inserted_spare : length (ring base na la) ≡ length (ring base na2 la) + 1
      inserted_spare = let e = ap length rest.1 in let f = ap length unused_after in omega arith

      at_a : ring base na2 a ≡ ring base na a ++ node ∷ []
      at_a = l.appended ∙ ap (λ (xs : List ℕ). xs ++ node ∷ []) (unmoved a a_in)

      others_a : (k : ℕ) → k < la → (k ≡ a → ⊥) → ring base na2 k ≡ ring base na k
      others_a k lt ne = let g = p.heads_a in l.others k (omega arith) ne ∙ unmoved k lt

      others_b : (k : ℕ) → k < lb → (k ≡ b → ⊥) → ring base nb1 k ≡ ring base nb k
      others_b k lt ne = let g = p.heads_b in m.others k (omega arith) ne

      pub inserted_a : lists_of base na2 la ≡ set (lists_of base na la) a (get_or (lists_of base na la) a [] ++ node ∷ [])
      inserted_a = lists_appended base na na2 la a node a_in at_a others_a

      pub inserted_b : lists_of base nb1 lb ≡ set (lists_of base nb lb) b (get_or (lists_of base nb lb) b [] ++ node ∷ [])
      inserted_b = lists_appended base nb nb1 lb b node b_in m.appended others_b

      new_live : IsSome (get_or (set values node (Some value)) node None)
      new_live = ap (λ (o : Option T). is_some o) (get_or-set_same values node (Some value) None in_values)

      live_before : (i : ℕ) → (i ≡ node → ⊥) → IsSome (get_or (set values node (Some value)) i None) → IsSome (get_or values i None)
      live_before i ne some = ap (λ (o : Option T). is_some o) (sym (get_or-set_other values node i (Some value) None ne)) ∙ some

      pub inserted : IsPool base la lb na2 pa2 nb1 pb1 (set values node (Some value))
      inserted =
          let e1 = u.same_length in
          let e2 = l.same_length in
          let e3 = m.same_length in
          let e4 = p.same_length in
          let e5 = p.values_length in
          record {
            rings_a = l.rings;
            rings_b = m.rings;
            same_length = omega arith;
            values_length = length-set values node (Some value) ∙ omega arith;
            heads_a = p.heads_a;
            heads_b = p.heads_b;
            live_a = λ k lt. elim (cases_eq k a) [
              | inl is ↦ All-same (λ (x : ℕ). IsSome (get_or (set values node (Some value)) x None)) (ring base na2 k) (ring base na a ++ node ∷ []) (ap (ring base na2) is ∙ at_a)
                  (All-push (λ (x : ℕ). IsSome (get_or (set values node (Some value)) x None)) (ring base na a) node (kept_live values node value in_values (ring base na a) (p.live_a a a_in)) new_live)
              | inr ne ↦ All-same (λ (x : ℕ). IsSome (get_or (set values node (Some value)) x None)) (ring base na2 k) (ring base na k) (others_a k lt ne)
                  (kept_live values node value in_values (ring base na k) (p.live_a k lt))
            ];
            live_b = λ k lt. elim (cases_eq k b) [
              | inl is ↦ All-same (λ (x : ℕ). IsSome (get_or (set values node (Some value)) x None)) (ring base nb1 k) (ring base nb b ++ node ∷ []) (ap (ring base nb1) is ∙ m.appended)
                  (All-push (λ (x : ℕ). IsSome (get_or (set values node (Some value)) x None)) (ring base nb b) node (kept_live values node value in_values (ring base nb b) (p.live_b b b_in)) new_live)
              | inr ne ↦ All-same (λ (x : ℕ). IsSome (get_or (set values node (Some value)) x None)) (ring base nb1 k) (ring base nb k) (others_b k lt ne)
                  (kept_live values node value in_values (ring base nb k) (p.live_b k lt))
            ];
            unused =
                let kept = l.others la p.heads_a (λ e. omega arith) ∙ u.lists la p.heads_a in
                All-same (λ (x : ℕ). get_or (set values node (Some value)) x None ≡ None) (ring base na2 la) (filter (λ x. not (eqb x node)) (ring base na la)) kept
                (others_kept values node (Some value) (λ (o : Option T). o ≡ None) (filter (λ x. not (eqb x node)) (ring base na la))
                (All-filter (λ x. not (eqb x node)) (λ (x : ℕ). get_or values x None ≡ None) (ring base na la) p.unused)
                (kept_differ node (ring base na la)));
            alone = λ i le lt none. elim (cases_eq i node) [
              | inl is ↦ absurd (cc (ap (λ (k : ℕ). get_or (set values node (Some value)) k None) is, get_or-set_same values node (Some value) None in_values, none))
              | inr ne ↦ m.alone i le ne (p.alone i le (omega arith) (sym (get_or-set_other values node i (Some value) None ne) ∙ none))
            ];
            heads_empty = λ i lt.
                let h = node_in in
                get_or-set_other values node i (Some value) None (λ e. omega arith) ∙ p.heads_empty i lt;
            listed_a = λ i some. elim (cases_eq i node) [
              | inl is ↦ subst (λ (k : ℕ). IsListed base la na2 k) (sym is) (listed_new base na na2 la node a a_in at_a)
              | inr ne ↦ listed_appended base na na2 la i a node at_a others_a (p.listed_a i (live_before i ne some))
            ];
            listed_b = λ i some. elim (cases_eq i node) [
              | inl is ↦ subst (λ (k : ℕ). IsListed base lb nb1 k) (sym is) (listed_new base nb nb1 lb node b b_in m.appended)
              | inr ne ↦ listed_appended base nb nb1 lb i b node m.appended others_b (p.listed_b i (live_before i ne some))
            ];
            numbers = subst (λ (k : ℕ). k < 2 ^ 32) (sym (l.same_length ∙ u.same_length)) p.numbers;
          }

-- where none is unused, there is no room
pub none_left : {T : Type 0} (base la lb : ℕ) (na pa nb pb : List ℕ) (values : List (Option T)) → IsPool base la lb na pa nb pb values → node_after base na la ≡ None → length (ring base na la) ≡ 0
none_left base la lb na pa nb pb values p e =
    let r = p.rings_a in
    empty (ring base na la) (sym (path_first base na (ring base na la) la la (r.closed la p.heads_a) p.heads_a) ∙ e)
  where
    empty : (xs : List ℕ) → first_of xs ≡ None → length xs ≡ 0
    empty [] f = refl
    empty (x ∷ xs) f = absurd (cc)
