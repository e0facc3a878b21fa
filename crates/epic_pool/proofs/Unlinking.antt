-- A node taken out of its list.
use Rattle.std.proofs.Common.{◌≡◌, ℕ, ◌<◌, ◌≤◌, refl, sym, ◌∙◌, ap, subst, List, [], ◌∷◌, length, get_or, inl, inr, Bool, cond, not, eqb, arith}
use Rattle.std.specs.Prelude.{filter}
use Rattle.std.proofs.lemmas.Bool.{cases_eq, eq-eqb, ne_eqb}
use Rattle.epic_pool.specs.Rings.{Path, ring, IsRings, TwoWrites, Unlinked}
use Rattle.epic_pool.proofs.Paths.{ring_is}

pub filter_out : (node x : ℕ) (xs : List ℕ) → x ≡ node → filter (λ y. not (eqb y node)) (x ∷ xs) ≡ filter (λ y. not (eqb y node)) xs
filter_out node x xs e = ap (λ (t : Bool). cond (not t) (x ∷ filter (λ y. not (eqb y node)) xs) (filter (λ y. not (eqb y node)) xs)) (eq-eqb x node e)

pub filter_in : (node x : ℕ) (xs : List ℕ) → (x ≡ node → ⊥) → filter (λ y. not (eqb y node)) (x ∷ xs) ≡ x ∷ filter (λ y. not (eqb y node)) xs
filter_in node x xs e = ap (λ (t : Bool). cond (not t) (x ∷ filter (λ y. not (eqb y node)) xs) (filter (λ y. not (eqb y node)) xs)) (ne_eqb x node e)

module _ (base node : ℕ) (next prev after before : List ℕ) (r : IsRings base next prev) (node_in : base ≤ node) (node_there : node < length next)
    (a : TwoWrites next after (get_or prev node 0) (get_or next node 0) node node) (b : TwoWrites prev before (get_or next node 0) (get_or prev node 0) node node) where
  next_before : get_or next (get_or prev node 0) 0 ≡ node
  next_before = r.forth node node_there

  prev_after : get_or prev (get_or next node 0) 0 ≡ node
  prev_after = r.back node node_there

  only_before : (i : ℕ) → i < length next → get_or next i 0 ≡ node → i ≡ get_or prev node 0
  only_before i lt e = sym (r.back i lt) ∙ ap (λ (k : ℕ). get_or prev k 0) e

  -- followed by itself, led to by itself
  alone_back : get_or next node 0 ≡ node → get_or prev node 0 ≡ node
  alone_back e = ap (λ (k : ℕ). get_or prev k 0) (sym e) ∙ prev_after

  alone_forth : get_or prev node 0 ≡ node → get_or next node 0 ≡ node
  alone_forth e = ap (λ (k : ℕ). get_or next k 0) (sym e) ∙ next_before

  unlink_back : (i : ℕ) → i < length next → get_or before (get_or after i 0) 0 ≡ i
  unlink_back i lt = elim (cases_eq i node) [
    | inl e ↦ ap (λ (k : ℕ). get_or before (get_or after k 0) 0) e ∙ ap (λ (k : ℕ). get_or before k 0) a.at_last ∙ b.at_last ∙ sym e
    | inr ne ↦ elim (cases_eq i (get_or prev node 0)) [
      | inl e ↦ ap (λ (k : ℕ). get_or before k 0) (a.at_first i e ne) ∙ b.at_first (get_or next node 0) refl (λ f. ne (e ∙ alone_back f)) ∙ sym e
      | inr other ↦
          ap (λ (k : ℕ). get_or before k 0) (a.elsewhere i ne other)
          ∙ b.elsewhere
          (get_or next i 0)
          (λ e. other (only_before i lt e))
          (λ e. ne (sym (r.back i lt) ∙ ap (λ (k : ℕ). get_or prev k 0) e ∙ prev_after))
          ∙ r.back i lt
    ]
  ]

  unlink_forth : (i : ℕ) → i < length next → get_or after (get_or before i 0) 0 ≡ i
  unlink_forth i lt = elim (cases_eq i node) [
    | inl e ↦ ap (λ (k : ℕ). get_or after (get_or before k 0) 0) e ∙ ap (λ (k : ℕ). get_or after k 0) b.at_last ∙ a.at_last ∙ sym e
    | inr ne ↦ elim (cases_eq i (get_or next node 0)) [
      | inl e ↦ ap (λ (k : ℕ). get_or after k 0) (b.at_first i e ne) ∙ a.at_first (get_or prev node 0) refl (λ f. ne (e ∙ alone_forth f)) ∙ sym e
      | inr other ↦
          ap (λ (k : ℕ). get_or after k 0) (b.elsewhere i ne other)
          ∙ a.elsewhere
          (get_or prev i 0)
          (λ e. other (sym (r.forth i lt) ∙ ap (λ (k : ℕ). get_or next k 0) e))
          (λ e. ne (sym (r.forth i lt) ∙ ap (λ (k : ℕ). get_or next k 0) e ∙ next_before))
          ∙ r.forth i lt
    ]
  ]

  unlink_next_inside : (i : ℕ) → i < length next → get_or after i 0 < length next
  unlink_next_inside i lt = elim (cases_eq i node) [
    | inl e ↦ let f = ap (λ (k : ℕ). get_or after k 0) e ∙ a.at_last in omega arith
    | inr ne ↦ elim (cases_eq i (get_or prev node 0)) [
      | inl e ↦ let f = a.at_first i e ne in let h = r.next_inside node node_there in omega arith
      | inr other ↦ let f = a.elsewhere i ne other in let h = r.next_inside i lt in omega arith
    ]
  ]

  unlink_prev_inside : (i : ℕ) → i < length next → get_or before i 0 < length next
  unlink_prev_inside i lt = elim (cases_eq i node) [
    | inl e ↦ let f = ap (λ (k : ℕ). get_or before k 0) e ∙ b.at_last in omega arith
    | inr ne ↦ elim (cases_eq i (get_or next node 0)) [
      | inl e ↦ let f = b.at_first i e ne in let h = r.prev_inside node node_there in omega arith
      | inr other ↦ let f = b.elsewhere i ne other in let h = r.prev_inside i lt in omega arith
    ]
  ]

  -- a step that does not lead to the node
  keeps_step : (i x : ℕ) → (i ≡ node → ⊥) → get_or next i 0 ≡ x → (x ≡ node → ⊥) → get_or after i 0 ≡ x
  keeps_step i x ne e other = a.elsewhere i ne (λ f. other (sym e ∙ ap (λ (k : ℕ). get_or next k 0) f ∙ next_before)) ∙ e

  -- the step to the node leads past it
  past_node : (i y : ℕ) → i < length next → (i ≡ node → ⊥) → get_or next i 0 ≡ node → get_or next node 0 ≡ y → get_or after i 0 ≡ y
  past_node i y lt ne e f = a.at_first i (only_before i lt e) ne ∙ f

  past_other : (i y : ℕ) → i < length next → (i ≡ node → ⊥) → get_or next i 0 ≡ node → get_or next node 0 ≡ y → y ≡ node → ⊥
  past_other i y lt ne e f is = ne (only_before i lt e ∙ alone_back (f ∙ is))

  out : List ℕ → List ℕ
  out xs = filter (λ y. not (eqb y node)) xs

  unlinked : (xs : List ℕ) (i to : ℕ) → i < length next → (i ≡ node → ⊥) → to < base → Path base next i xs to → Path base after i (filter (λ y. not (eqb y node)) xs) to
  unfolding Path
  unlinked [] i to lt ne le p = keeps_step i to ne p (λ e. omega arith)
  unlinked (x ∷ []) i to lt ne le p = elim (cases_eq x node) [
    | inl e ↦ subst (λ (ys : List ℕ). Path base after i ys to) (sym (filter_out node x [] e))
        (past_node i to lt ne (p.0 ∙ e) (ap (λ (k : ℕ). get_or next k 0) (sym e) ∙ p.2))
    | inr other ↦ subst (λ (ys : List ℕ). Path base after i ys to) (sym (filter_in node x [] other))
        (keeps_step i x ne p.0 other, p.1, keeps_step x to other p.2 (λ e. omega arith))
  ]
  unlinked (x ∷ (y ∷ ys)) i to lt ne le p =
      let there : x < length next = subst (λ (k : ℕ). k < length next) p.0 (r.next_inside i lt) in
      let beyond : y < length next = subst (λ (k : ℕ). k < length next) p.2.0 (r.next_inside x there) in
      elim (cases_eq x node) [
        | inl e ↦
            let f : get_or next node 0 ≡ y = ap (λ (k : ℕ). get_or next k 0) (sym e) ∙ p.2.0 in
            let differs : y ≡ node → ⊥ = past_other i y lt ne (p.0 ∙ e) f in
            subst (λ (zs : List ℕ). Path base after i zs to) (sym (filter_out node x (y ∷ ys) e ∙ filter_in node y ys differs))
            (past_node i y lt ne (p.0 ∙ e) f, p.2.1, unlinked ys y to beyond differs le p.2.2)
        | inr other ↦ subst (λ (zs : List ℕ). Path base after i zs to) (sym (filter_in node x (y ∷ ys) other))
            (keeps_step i x ne p.0 other, p.1, unlinked (y ∷ ys) x to there other le p.2)
      ]

  after_inside : (i : ℕ) → i < length after → get_or after i 0 < length after
  after_inside i lt =
      let e = a.same_length in
      let h = unlink_next_inside i (omega arith) in
      omega arith

  path_of : (l : ℕ) → l < base → Path base after l (filter (λ y. not (eqb y node)) (ring base next l)) l
  path_of l lt = let h = r.heads in unlinked (ring base next l) l l (omega arith) (λ e. omega arith) lt (r.closed l lt)

  unlink_lists : (l : ℕ) → l < base → ring base after l ≡ filter (λ y. not (eqb y node)) (ring base next l)
  unlink_lists l lt =
      let h = r.heads in
      let e = a.same_length in
      ring_is base after (filter (λ y. not (eqb y node)) (ring base next l)) l l after_inside (omega arith) (path_of l lt) lt

  unlink_rings : IsRings base after before
  unlink_rings =
      let e = a.same_length in
      let f = b.same_length in
      let g = r.same_length in
      let h = r.heads in
      record {
        same_length = omega arith;
        heads = omega arith;
        next_inside = after_inside;
        prev_inside = λ i lt. let k = unlink_prev_inside i (omega arith) in omega arith;
        back = λ i lt. unlink_back i (omega arith);
        forth = λ i lt. unlink_forth i (omega arith);
        closed = λ l lt. subst (λ (xs : List ℕ). Path base after l xs l) (sym (unlink_lists l lt)) (path_of l lt);
      }

  pub without_node : Unlinked base node next after before
  without_node = record {
    rings = unlink_rings;
    same_length = a.same_length;
    lists = unlink_lists;
    apart = a.at_last;
    alone = λ i ne e. keeps_step i i ne e ne;
  }
