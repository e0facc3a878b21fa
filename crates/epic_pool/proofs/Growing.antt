-- One more index behind the others, which stands alone.
use Rattle.std.proofs.Common.{◌≡◌, ℕ, zero, suc, ◌+◌, ◌<◌, refl, sym, ◌∙◌, ap, subst, List, [], ◌∷◌, ◌++◌, length, get_or, None, Option, inl, inr, arith, length-append}
use Rattle.std.proofs.lemmas.Bool.{cases_lt}
use Rattle.epic_pool.specs.Rings.{Path, ring, IsRings, Grown}
use Rattle.epic_pool.proofs.Paths.{ring_is}

pub at_front : (xs : List ℕ) (x i : ℕ) → i < length xs → get_or (xs ++ x ∷ []) i 0 ≡ get_or xs i 0
at_front [] x i lt = absurd (omega arith)
at_front (y ∷ ys) x zero lt = refl
at_front (y ∷ ys) x (suc i) lt = at_front ys x i (omega arith)

pub at_end : (xs : List ℕ) (x : ℕ) → get_or (xs ++ x ∷ []) (length xs) 0 ≡ x
at_end [] x = refl
at_end (y ∷ ys) x = at_end ys x

pub length-push : (xs : List ℕ) (x : ℕ) → length (xs ++ x ∷ []) ≡ length xs + 1
length-push xs x = length-append xs (x ∷ [])

-- a value of nothing at the end is what stands past the end
pub padded : {T : Type 0} (values : List (Option T)) (i : ℕ) → get_or (values ++ None ∷ []) i None ≡ get_or values i None
padded [] zero = refl
padded [] (suc i) = refl
padded (v ∷ vs) zero = refl
padded (v ∷ vs) (suc i) = padded vs i

module _ (base : ℕ) (next prev : List ℕ) (r : IsRings base next prev) where
  path_kept : (xs : List ℕ) (i to : ℕ) → i < length next → Path base next i xs to → Path base (next ++ length next ∷ []) i xs to
  unfolding Path
  path_kept [] i to lt p = at_front next (length next) i lt ∙ p
  path_kept (x ∷ xs) i to lt p =
      let there : x < length next = subst (λ (k : ℕ). k < length next) p.0 (r.next_inside i lt) in
      (at_front next (length next) i lt ∙ p.0, p.1, path_kept xs x to there p.2)

  prev_front : (i : ℕ) → i < length next → get_or (prev ++ length next ∷ []) i 0 ≡ get_or prev i 0
  prev_front i lt = let e = r.same_length in at_front prev (length next) i (omega arith)

  prev_end : get_or (prev ++ length next ∷ []) (length next) 0 ≡ length next
  prev_end = let e = r.same_length in ap (λ (k : ℕ). get_or (prev ++ length next ∷ []) k 0) (sym e) ∙ at_end prev (length next)

  inside : (i : ℕ) → i < length (next ++ length next ∷ []) → get_or (next ++ length next ∷ []) i 0 < length (next ++ length next ∷ [])
  inside i lt =
      let m = length-push next (length next) in
      elim (cases_lt i (length next)) [
        | inl less ↦ let e = at_front next (length next) i less in let h = r.next_inside i less in omega arith
        | inr le ↦ let is : i ≡ length next = omega arith in let e = ap (λ (k : ℕ). get_or (next ++ length next ∷ []) k 0) is ∙ at_end next (length next) in omega arith
      ]

  prev_inside : (i : ℕ) → i < length (next ++ length next ∷ []) → get_or (prev ++ length next ∷ []) i 0 < length (next ++ length next ∷ [])
  prev_inside i lt =
      let m = length-push next (length next) in
      elim (cases_lt i (length next)) [
        | inl less ↦ let e = prev_front i less in let h = r.prev_inside i less in omega arith
        | inr le ↦ let is : i ≡ length next = omega arith in let e = ap (λ (k : ℕ). get_or (prev ++ length next ∷ []) k 0) is ∙ prev_end in omega arith
      ]

  back : (i : ℕ) → i < length next + 1 → get_or (prev ++ length next ∷ []) (get_or (next ++ length next ∷ []) i 0) 0 ≡ i
  back i lt = elim (cases_lt i (length next)) [
    | inl less ↦
        ap (λ (k : ℕ). get_or (prev ++ length next ∷ []) k 0) (at_front next (length next) i less)
        ∙ prev_front (get_or next i 0) (r.next_inside i less)
        ∙ r.back i less
    | inr le ↦
        let is : i ≡ length next = omega arith in
        ap (λ (k : ℕ). get_or (prev ++ length next ∷ []) (get_or (next ++ length next ∷ []) k 0) 0) is
        ∙ ap (λ (k : ℕ). get_or (prev ++ length next ∷ []) k 0) (at_end next (length next))
        ∙ prev_end
        ∙ sym is
  ]

  forth : (i : ℕ) → i < length next + 1 → get_or (next ++ length next ∷ []) (get_or (prev ++ length next ∷ []) i 0) 0 ≡ i
  forth i lt = elim (cases_lt i (length next)) [
    | inl less ↦
        ap (λ (k : ℕ). get_or (next ++ length next ∷ []) k 0) (prev_front i less)
        ∙ at_front next (length next) (get_or prev i 0) (r.prev_inside i less)
        ∙ r.forth i less
    | inr le ↦
        let is : i ≡ length next = omega arith in
        ap (λ (k : ℕ). get_or (next ++ length next ∷ []) (get_or (prev ++ length next ∷ []) k 0) 0) is
        ∙ ap (λ (k : ℕ). get_or (next ++ length next ∷ []) k 0) prev_end
        ∙ at_end next (length next)
        ∙ sym is
  ]

  lists : (l : ℕ) → l < base → ring base (next ++ length next ∷ []) l ≡ ring base next l
  lists l lt =
      let m = length-push next (length next) in
      let h = r.heads in
      ring_is base (next ++ length next ∷ []) (ring base next l) l l inside (omega arith) (path_kept (ring base next l) l l (omega arith) (r.closed l lt)) lt

  pub grown : Grown base next (next ++ length next ∷ []) (prev ++ length next ∷ [])
  grown =
      let m = length-push next (length next) in
      let k = length-push prev (length next) in
      let e = r.same_length in
      let h = r.heads in
      record {
        rings = record {
          same_length = omega arith;
          heads = omega arith;
          next_inside = inside;
          prev_inside = prev_inside;
          back = λ i lt. back i (omega arith);
          forth = λ i lt. forth i (omega arith);
          closed = λ l lt. subst (λ (xs : List ℕ). Path base (next ++ length next ∷ []) l xs l) (sym (lists l lt)) (path_kept (ring base next l) l l (omega arith) (r.closed l lt));
        };
        same_length = m;
        lists = lists;
        apart = at_end next (length next);
        alone = λ i lt is. at_front next (length next) i lt ∙ is;
      }
