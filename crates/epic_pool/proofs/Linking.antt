-- A node put at the end of a list.
use Rattle.std.proofs.Common.{◌≡◌, ℕ, ◌<◌, ◌≤◌, refl, sym, ◌∙◌, ap, subst, List, [], ◌∷◌, ◌++◌, length, get_or, inl, inr, arith}
use Rattle.std.proofs.lemmas.Bool.{cases_eq}
use Rattle.epic_pool.specs.Rings.{Path, ring, IsRings, TwoWrites, Linked}
use Rattle.epic_pool.proofs.Paths.{ring_is}

module _ (base head node : ℕ) (next prev after before : List ℕ) (r : IsRings base next prev) (head_in : head < base) (node_in : base ≤ node) (node_there : node < length next)
    (alone : get_or next node 0 ≡ node) (a : TwoWrites next after (get_or prev head 0) node node head) (b : TwoWrites prev before node (get_or prev head 0) head node) where
  last : ℕ
  last = get_or prev head 0

  prev_node : get_or prev node 0 ≡ node
  prev_node = ap (λ (k : ℕ). get_or prev k 0) (sym alone) ∙ r.back node node_there

  next_last : get_or next (get_or prev head 0) 0 ≡ head
  next_last = let h = r.heads in r.forth head (omega arith)

  last_apart : get_or prev head 0 ≡ node → ⊥
  last_apart e =
      let f : head ≡ node = sym next_last ∙ ap (λ (k : ℕ). get_or next k 0) e ∙ alone in
      omega arith

  not_to_node : (i : ℕ) → i < length next → (i ≡ node → ⊥) → get_or next i 0 ≡ node → ⊥
  not_to_node i lt ne e = ne (sym (r.back i lt) ∙ ap (λ (k : ℕ). get_or prev k 0) e ∙ prev_node)

  only_last : (i : ℕ) → i < length next → get_or next i 0 ≡ head → i ≡ get_or prev head 0
  only_last i lt e = sym (r.back i lt) ∙ ap (λ (k : ℕ). get_or prev k 0) e

  head_apart : head ≡ node → ⊥
  head_apart e = omega arith

  link_back : (i : ℕ) → i < length next → get_or before (get_or after i 0) 0 ≡ i
  link_back i lt = elim (cases_eq i node) [
    | inl e ↦ ap (λ (k : ℕ). get_or before (get_or after k 0) 0) e ∙ ap (λ (k : ℕ). get_or before k 0) a.at_last ∙ b.at_last ∙ sym e
    | inr ne ↦ elim (cases_eq i (get_or prev head 0)) [
      | inl e ↦ ap (λ (k : ℕ). get_or before k 0) (a.at_first i e ne) ∙ b.at_first node refl (λ h. head_apart (sym h)) ∙ sym e
      | inr other ↦
          ap (λ (k : ℕ). get_or before k 0) (a.elsewhere i ne other)
          ∙ b.elsewhere (get_or next i 0) (λ e. other (only_last i lt e)) (not_to_node i lt ne)
          ∙ r.back i lt
    ]
  ]

  link_forth : (i : ℕ) → i < length next → get_or after (get_or before i 0) 0 ≡ i
  link_forth i lt = elim (cases_eq i head) [
    | inl e ↦ ap (λ (k : ℕ). get_or after (get_or before k 0) 0) e ∙ ap (λ (k : ℕ). get_or after k 0) b.at_last ∙ a.at_last ∙ sym e
    | inr ne ↦ elim (cases_eq i node) [
      | inl e ↦ ap (λ (k : ℕ). get_or after k 0) (b.at_first i e ne) ∙ a.at_first (get_or prev head 0) refl last_apart ∙ sym e
      | inr other ↦
          ap (λ (k : ℕ). get_or after k 0) (b.elsewhere i ne other)
          ∙ a.elsewhere
          (get_or prev i 0)
          (λ e. other (sym (r.forth i lt) ∙ ap (λ (k : ℕ). get_or next k 0) e ∙ alone))
          (λ e. ne (sym (r.forth i lt) ∙ ap (λ (k : ℕ). get_or next k 0) e ∙ next_last))
          ∙ r.forth i lt
    ]
  ]

  link_next_inside : (i : ℕ) → i < length next → get_or after i 0 < length next
  link_next_inside i lt = elim (cases_eq i node) [
    | inl e ↦ let f = ap (λ (k : ℕ). get_or after k 0) e ∙ a.at_last in let h = r.heads in omega arith
    | inr ne ↦ elim (cases_eq i (get_or prev head 0)) [
      | inl e ↦ let f = a.at_first i e ne in omega arith
      | inr other ↦ let f = a.elsewhere i ne other in let h = r.next_inside i lt in omega arith
    ]
  ]

  link_prev_inside : (i : ℕ) → i < length next → get_or before i 0 < length next
  link_prev_inside i lt = elim (cases_eq i head) [
    | inl e ↦ let f = ap (λ (k : ℕ). get_or before k 0) e ∙ b.at_last in omega arith
    | inr ne ↦ elim (cases_eq i node) [
      | inl e ↦ let f = b.at_first i e ne in let g = r.heads in let h = r.prev_inside head (omega arith) in omega arith
      | inr other ↦ let f = b.elsewhere i ne other in let h = r.prev_inside i lt in omega arith
    ]
  ]

  -- a step that is not from the last index of the list
  keeps_step : (i x : ℕ) → (i ≡ node → ⊥) → get_or next i 0 ≡ x → (x ≡ head → ⊥) → get_or after i 0 ≡ x
  keeps_step i x ne e other = a.elsewhere i ne (λ f. other (sym e ∙ ap (λ (k : ℕ). get_or next k 0) f ∙ next_last)) ∙ e

  path_to_head : (xs : List ℕ) (i : ℕ) → i < length next → (i ≡ node → ⊥) → Path base next i xs head → Path base after i (xs ++ node ∷ []) head
  unfolding Path
  path_to_head [] i lt ne p = (a.at_first i (only_last i lt p) ne, node_in, a.at_last)
  path_to_head (x ∷ xs) i lt ne p =
      let there : x < length next = subst (λ (k : ℕ). k < length next) p.0 (r.next_inside i lt) in (
        keeps_step i x ne p.0 (λ e. let h = p.1 in omega arith),
        p.1,
        path_to_head xs x there (λ e. not_to_node i lt ne (p.0 ∙ e)) p.2,
      )

  path_elsewhere : (xs : List ℕ) (i to : ℕ) → i < length next → (i ≡ node → ⊥) → (to ≡ head → ⊥) → Path base next i xs to → Path base after i xs to
  unfolding Path
  path_elsewhere [] i to lt ne other p = keeps_step i to ne p other
  path_elsewhere (x ∷ xs) i to lt ne other p =
      let there : x < length next = subst (λ (k : ℕ). k < length next) p.0 (r.next_inside i lt) in (
        keeps_step i x ne p.0 (λ e. let h = p.1 in omega arith),
        p.1,
        path_elsewhere xs x to there (λ e. not_to_node i lt ne (p.0 ∙ e)) other p.2,
      )

  after_inside : (i : ℕ) → i < length after → get_or after i 0 < length after
  after_inside i lt =
      let e = a.same_length in
      let h = link_next_inside i (omega arith) in
      omega arith

  to_head : Path base after head (ring base next head ++ node ∷ []) head
  to_head = let h = r.heads in path_to_head (ring base next head) head (omega arith) head_apart (r.closed head head_in)

  elsewhere_path : (l : ℕ) → l < base → (l ≡ head → ⊥) → Path base after l (ring base next l) l
  elsewhere_path l lt ne = let h = r.heads in path_elsewhere (ring base next l) l l (omega arith) (λ e. omega arith) ne (r.closed l lt)

  link_appended : ring base after head ≡ ring base next head ++ node ∷ []
  link_appended =
      let h = r.heads in
      let e = a.same_length in
      ring_is base after (ring base next head ++ node ∷ []) head head after_inside (omega arith) to_head head_in

  link_others : (l : ℕ) → l < base → (l ≡ head → ⊥) → ring base after l ≡ ring base next l
  link_others l lt ne =
      let h = r.heads in
      let e = a.same_length in
      ring_is base after (ring base next l) l l after_inside (omega arith) (elsewhere_path l lt ne) lt

  link_rings : IsRings base after before
  link_rings =
      let e = a.same_length in
      let f = b.same_length in
      let g = r.same_length in
      let h = r.heads in
      record {
        same_length = omega arith;
        heads = omega arith;
        next_inside = after_inside;
        prev_inside = λ i lt. let k = link_prev_inside i (omega arith) in omega arith;
        back = λ i lt. link_back i (omega arith);
        forth = λ i lt. link_forth i (omega arith);
        closed = λ l lt. elim (cases_eq l head) [
          | inl is ↦ subst (λ (k : ℕ). Path base after k (ring base after k) k) (sym is) (subst (λ (xs : List ℕ). Path base after head xs head) (sym link_appended) to_head)
          | inr ne ↦ subst (λ (xs : List ℕ). Path base after l xs l) (sym (link_others l lt ne)) (elsewhere_path l lt ne)
        ];
      }

  pub linked : Linked base head node next after before
  linked = record {
    rings = link_rings;
    same_length = a.same_length;
    appended = link_appended;
    others = link_others;
    alone = λ i le ne e. keeps_step i i ne e (λ f. omega arith);
  }
