-- Steps of a loop over `0..n`, for words over a range.
use Rattle.std.proofs.Common.{◌≡◌, ℕ, zero, suc, ◌+◌, ◌<◌, zero-add, [], ◌∷◌, ◌++◌, map, refl, ap, sym, ◌∙◌, arith}
use Rattle.std.specs.Prelude.{Bool, true, false, ◌||◌}
use Rattle.std.specs.List.{range_with_len, list_any, sum_by}
use Rattle.std.proofs.lemmas.List.{map-id}
use Rattle.std.proofs.lemmas.List.Folds.{list_any-append}
use Rattle.std.proofs.lemmas.List.FromFn.{fill_by_all, length-map-range_with_len, get_or-map-range_with_len, map-range_with_len_more, sum_by-map-range_with_len_more}

pub range_more : (n : ℕ) → range_with_len 0 (n + 1) ≡ range_with_len 0 n ++ n ∷ []
range_more n = sym (map-id (range_with_len 0 (n + 1))) ∙ map-range_with_len_more (λ x. x) 0 n n (omega arith) ∙ ap (λ xs. xs ++ n ∷ []) (map-id (range_with_len 0 n))

pub or-false : (b : Bool) → (b || false) ≡ b
or-false b = elim b as (λ v. (v || false) ≡ v) [ true ↦ refl | false ↦ refl ]

pub list_any_range_more : (p : ℕ → Bool) (n : ℕ) → list_any p (range_with_len 0 (n + 1)) ≡ (list_any p (range_with_len 0 n) || p n)
list_any_range_more p n = ap (list_any p) (range_more n) ∙ list_any-append p (range_with_len 0 n) (n ∷ []) ∙ ap (λ b. list_any p (range_with_len 0 n) || b) (or-false (p n))

pub sum_by_range_more : {X : Type 0} (g : X → ℕ) (f : ℕ → X) (n : ℕ) → sum_by g (map f (range_with_len 0 (n + 1))) ≡ sum_by g (map f (range_with_len 0 n)) + g (f n)
sum_by_range_more g f n = sum_by-map-range_with_len_more g f 0 n n (omega arith)

pub ruleset range_steps = (list_any_range_more, sum_by_range_more)

-- two lists made by functions that agree
pub map_range_same : {X : Type 0} (d : X) (f g : ℕ → X) (n : ℕ) → ((k : ℕ) → k < n → f k ≡ g k) → map f (range_with_len 0 n) ≡ map g (range_with_len 0 n)
map_range_same d f g n same =
    fill_by_all g (map f (range_with_len 0 n)) n d (length-map-range_with_len f 0 n)
    (λ k h. get_or-map-range_with_len f 0 n k k d h (zero-add k) ∙ same k h)

-- a range goes on where one before it ends
pub map_range_join : {X : Type 0} (f : ℕ → X) (a m n : ℕ) → map f (range_with_len a m) ++ map f (range_with_len (a + m) n) ≡ map f (range_with_len a (m + n))
map_range_join f a zero n =
    let start : a + 0 ≡ a = omega arith in
    let all : n ≡ 0 + n = omega arith in
    ap (λ k. map f (range_with_len k n)) start ∙ ap (λ k. map f (range_with_len a k)) all
map_range_join f a (suc m) n =
    let next : a + suc m ≡ a + 1 + m = omega arith in
    let all : suc (m + n) ≡ suc m + n = omega arith in
    ap (λ k. f a ∷ (map f (range_with_len (a + 1) m) ++ map f (range_with_len k n))) next
    ∙ ap (λ xs. f a ∷ xs) (map_range_join f (a + 1) m n)
    ∙ ap (λ k. map f (range_with_len a k)) all
