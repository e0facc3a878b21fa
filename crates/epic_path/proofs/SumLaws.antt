-- Sums over lists that are made of others.
use Rattle.std.proofs.Common.{◌≡◌, ℕ, ◌+◌, Bool, true, false, cond, List, [], ◌∷◌, map, Option, Some, None, refl, sym, ◌∙◌, arith}
use Rattle.std.specs.Prelude.{sum_by, filter, filter_map, flat_map}
use Rattle.std.specs.List.{cons_option}
use Rattle.std.specs.Option.{option_map_or}
use Rattle.std.proofs.lemmas.List.Sums.{sum_by-cons, sum_by-append}

module _ {X : Type 0} where
  pub sum_by_one : (f : X → ℕ) (x : X) → sum_by f (x ∷ []) ≡ f x
  sum_by_one f x = omega arith

  pub sum_by_agree : (f g : X → ℕ) → ((x : X) → f x ≡ g x) → (xs : List X) → sum_by f xs ≡ sum_by g xs
  sum_by_agree f g e [] = refl
  sum_by_agree f g e (x ∷ xs) = sum_by-cons f x xs ∙ (λ i. e x i + sum_by_agree f g e xs i) ∙ sym (sum_by-cons g x xs)

  pub sum_by_nothing : (f : X → ℕ) → ((x : X) → f x ≡ 0) → (xs : List X) → sum_by f xs ≡ 0
  sum_by_nothing f e [] = refl
  sum_by_nothing f e (x ∷ xs) = omega (arith, sum_by-cons f x xs, e x, sum_by_nothing f e xs)

  pub sum_by_plus : (f g : X → ℕ) (xs : List X) → sum_by (λ x. f x + g x) xs ≡ sum_by f xs + sum_by g xs
  sum_by_plus f g [] = refl
  sum_by_plus f g (x ∷ xs) = omega (arith, sum_by-cons (λ y. f y + g y) x xs, sum_by-cons f x xs, sum_by-cons g x xs, sum_by_plus f g xs)

  pub sum_by-filter : (f : X → ℕ) (p : X → Bool) (xs : List X) → sum_by f (filter p xs) ≡ sum_by (λ x. cond (p x) (f x) 0) xs
  sum_by-filter f p [] = refl
  sum_by-filter f p (x ∷ xs) =
      let T : Bool → Type 0 = λ b. sum_by f (cond b (x ∷ filter p xs) (filter p xs)) ≡ cond b (f x) 0 + sum_by (λ y. cond (p y) (f y) 0) xs in
      (elim (p x) as T [
        | true ↦ omega (arith, sum_by-cons f x (filter p xs), sum_by-filter f p xs)
        | false ↦ omega (arith, sum_by-filter f p xs)
      ])
      ∙ sym (sum_by-cons (λ y. cond (p y) (f y) 0) x xs)

module _ {X Y : Type 0} (f : Y → ℕ) where
  pub sum_by-map : (g : X → Y) (xs : List X) → sum_by f (map g xs) ≡ sum_by (λ x. f (g x)) xs
  sum_by-map g [] = refl
  sum_by-map g (x ∷ xs) = omega (arith, sum_by-cons f (g x) (map g xs), sum_by-cons (λ y. f (g y)) x xs, sum_by-map g xs)

  pub sum_by-flat_map : (g : X → List Y) (xs : List X) → sum_by f (flat_map g xs) ≡ sum_by (λ x. sum_by f (g x)) xs
  sum_by-flat_map g [] = refl
  sum_by-flat_map g (x ∷ xs) =
      omega (arith, sum_by-append f (g x) (flat_map g xs), sum_by-cons (λ y. sum_by f (g y)) x xs, sum_by-flat_map g xs)

  pub sum_by-filter_map : (g : X → Option Y) (xs : List X) → sum_by f (filter_map g xs) ≡ sum_by (λ x. option_map_or f (g x) 0) xs
  sum_by-filter_map g [] = refl
  sum_by-filter_map g (x ∷ xs) =
      let T : Option Y → Type 0 = λ o. sum_by f (cons_option o (filter_map g xs)) ≡ option_map_or f o 0 + sum_by (λ y. option_map_or f (g y) 0) xs in
      (elim (g x) as T [
        | None ↦ omega (arith, sum_by-filter_map g xs)
        | Some y ↦ omega (arith, sum_by-cons f y (filter_map g xs), sum_by-filter_map g xs)
      ])
      ∙ sym (sum_by-cons (λ y. option_map_or f (g y) 0) x xs)
