-- Counting the elements of a list that pass a test, and looking up by two tests.
use Rattle.std.proofs.Common.{◌≡◌, ℕ, ◌+◌, ◌≤◌, refl, sym, ◌∙◌, ap, subst, List, [], ◌∷◌, Bool, true, false, cond, ◌&&◌, arith}
use Rattle.std.specs.Prelude.{count_by, filter, Option, Some, None}
use Rattle.std.specs.Map.{lookup}
use Rattle.std.proofs.lemmas.List.Sums.{sum_by-cons}

-- what a test adds to a count
abbrev pub one : Bool → ℕ
one b = cond {A = ℕ} b 1 0

one-le : (b c : Bool) → (b ≡ true → c ≡ true) → one b ≤ one c
one-le true c h = subst (λ d. 1 ≤ one d) (sym (h refl)) (omega arith)
one-le false c h = omega arith

and_absorbs : (b c : Bool) → (c ≡ true → b ≡ true) → (b && c) ≡ c
and_absorbs true c h = refl
and_absorbs false true h = h refl
and_absorbs false false h = refl

pub count-cons : {X : Type 0} (p : X → Bool) (x : X) (xs : List X) → count_by p (x ∷ xs) ≡ one (p x) + count_by p xs
count-cons p x xs = sum_by-cons (λ y. cond (p y) 1 0) x xs

pub count-agree : {X : Type 0} (p q : X → Bool) → ((x : X) → p x ≡ q x) → (xs : List X) → count_by p xs ≡ count_by q xs
count-agree p q h [] = refl
count-agree p q h (x ∷ xs) =
    let e : one (p x) ≡ one (q x) = ap one (h x) in
    omega (arith, count-cons p x xs, count-cons q x xs, count-agree p q h xs, e)

pub count-none : {X : Type 0} (p : X → Bool) → ((x : X) → p x ≡ false) → (xs : List X) → count_by p xs ≡ 0
count-none p h [] = refl
count-none p h (x ∷ xs) = omega (arith, count-cons p x xs, count-none p h xs, ap one (h x))

pub count-sum : {X : Type 0} (p q r : X → Bool) → ((x : X) → one (p x) ≡ one (q x) + one (r x)) → (xs : List X) → count_by p xs ≡ count_by q xs + count_by r xs
count-sum p q r h [] = omega arith
count-sum p q r h (x ∷ xs) = omega (arith, count-cons p x xs, count-cons q x xs, count-cons r x xs, count-sum p q r h xs, h x)

pub count-le : {X : Type 0} (p q : X → Bool) → ((x : X) → p x ≡ true → q x ≡ true) → (xs : List X) → count_by p xs ≤ count_by q xs
count-le p q h [] = omega arith
count-le p q h (x ∷ xs) =
    omega (arith, count-cons p x xs, count-cons q x xs, count-le p q h xs, one-le (p x) (q x) (h x))

filter_step : {X : Type 0} (p : X → Bool) (b : Bool) (x : X) (xs : List X) → count_by p (cond b (x ∷ xs) xs) ≡ one (b && p x) + count_by p xs
filter_step p true x xs = count-cons p x xs
filter_step p false x xs = omega arith

pub count-filter : {X : Type 0} (p q : X → Bool) (xs : List X) → count_by p (filter q xs) ≡ count_by (λ x. q x && p x) xs
count-filter p q [] = refl
count-filter p q (x ∷ xs) =
    omega (arith, filter_step p (q x) x (filter q xs), count-cons (λ y. q y && p y) x xs, count-filter p q xs)

-- a filter that keeps all that is counted
pub count-kept : {X : Type 0} (p q : X → Bool) → ((x : X) → p x ≡ true → q x ≡ true) → (xs : List X) → count_by p (filter q xs) ≡ count_by p xs
count-kept p q h xs = count-filter p q xs ∙ count-agree (λ x. q x && p x) p (λ x. and_absorbs (q x) (p x) (h x)) xs

-- a filter leaves no more than there was
pub count-filter-le : {X : Type 0} (p q : X → Bool) (xs : List X) → count_by p (filter q xs) ≤ count_by p xs
count-filter-le p q xs =
    let e = count-filter p q xs in
    omega (arith, e, count-le (λ x. q x && p x) p (λ x. and_second (q x) (p x)) xs)
  where
    and_second : (b c : Bool) → (b && c) ≡ true → c ≡ true
    and_second true c h = h
    and_second false true h = refl
    and_second false false h = h

-- a look-up by a test and another, which answers b wherever the first passes
pub lookup-and : {K X : Type 0} (t p : K → Bool) (b : Bool) → ((k : K) → t k ≡ true → p k ≡ b) → (es : List (K × X)) → lookup (λ k. t k && p k) es ≡ cond b (lookup t es) None
lookup-and t p true h [] = refl
lookup-and t p false h [] = refl
lookup-and {K} {X} t p b h (e ∷ es) =
    step (t e.0) (p e.0) b (h e.0) (Some e.1) (lookup (λ k. t k && p k) es) (lookup t es) (lookup-and t p b h es)
  where
    step : (c d b : Bool) → (c ≡ true → d ≡ b) → (v r s : Option X) → r ≡ cond b s None → cond (c && d) v r ≡ cond b (cond c v s) None
    step true d true h v r s i = ap (λ d. cond d v r) (h refl)
    step true d false h v r s i = ap (λ d. cond d v r) (h refl) ∙ i
    step false d b h v r s i = i
