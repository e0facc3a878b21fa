-- Lists of what elements answer.
use Rattle.std.proofs.Common.{length, inl, inr, ◌≡◌, ℕ, zero, suc, List, [], ◌∷◌, ◌++◌, refl, ap, ◌∙◌}
use Rattle.std.specs.Prelude.{◌⊎◌, Option, Some, None, slice_get, filter_map}
use Rattle.std.specs.List.{cons_option}
use Rattle.std.proofs.lemmas.List.{append-nil}
use Rattle.std.proofs.lemmas.Option.{same_Some}
use Rattle.std.proofs.lemmas.List.Elements.{filter_map-append}

-- two functions that agree on the elements
pub same_answers : {X Y : Type 0} (f g : X → Option Y) (xs : List X) → ((n : ℕ) (x : X) → slice_get xs n ≡ Some x → f x ≡ g x)
    → filter_map f xs ≡ filter_map g xs
same_answers f g [] h = refl
same_answers f g (x ∷ xs) h =
    ap (λ o. cons_option o (filter_map f xs)) (h 0 x refl)
    ∙ ap (cons_option (g x)) (same_answers f g xs (λ n y e. h (suc n) y e))

-- what stands among the answers is the answer of an element
pub record Answered {X Y : Type 0} (f : X → Option Y) (xs : List X) (y : Y) : Type 0 where
  pub index : ℕ
  pub element : X
  pub there : slice_get xs index ≡ Some element
  pub answer : f element ≡ Some y

later : {X Y : Type 0} (f : X → Option Y) (x : X) (xs : List X) (y : Y) → Answered f xs y → Answered f (x ∷ xs) y
later f x xs y a = record { index = suc a.index; element = a.element; there = a.there; answer = a.answer }

pub answered : {X Y : Type 0} (f : X → Option Y) (xs : List X) (n : ℕ) (y : Y) → slice_get (filter_map f xs) n ≡ Some y → Answered f xs y
answered f [] n y h = absurd (cc)
answered f (x ∷ xs) n y h = by (f x) refl n (λ m s. later f x xs y (answered f xs m y s)) h
  where
    by : (o : Option _) → f x ≡ o → (k : ℕ) → ((m : ℕ) → slice_get (filter_map f xs) m ≡ Some y → Answered f (x ∷ xs) y)
        → slice_get (cons_option o (filter_map f xs)) k ≡ Some y → Answered f (x ∷ xs) y
    by None e k rest s = rest k s
    by (Some z) e zero rest s = record { index = 0; element = x; there = refl; answer = e ∙ s }
    by (Some z) e (suc k) rest s = rest k s

-- one element more, and what it answers
pub one_more : {X Y : Type 0} (f : X → Option Y) (xs : List X) (x : X) (y : Y) → f x ≡ Some y
    → filter_map f (xs ++ x ∷ []) ≡ filter_map f xs ++ y ∷ []
one_more f xs x y e = filter_map-append f xs (x ∷ []) ∙ ap (λ o. filter_map f xs ++ cons_option o []) e

pub none_more : {X Y : Type 0} (f : X → Option Y) (xs : List X) (x : X) → f x ≡ None → filter_map f (xs ++ x ∷ []) ≡ filter_map f xs
none_more f xs x e =
    filter_map-append f xs (x ∷ []) ∙ (ap (λ o. filter_map f xs ++ cons_option o []) e ∙ append-nil (filter_map f xs))

-- an element of a list with one more at its end is of the list, or that one
pub old_or_last : {A : Type 0} (xs : List A) (x y : A) (n : ℕ) → slice_get (xs ++ x ∷ []) n ≡ Some y
    → (slice_get xs n ≡ Some y) ⊎ ((n ≡ length xs) × (x ≡ y))
old_or_last [] x y zero e = inr (refl, same_Some x y e)
old_or_last [] x y (suc n) e = absurd (cc)
old_or_last (z ∷ xs) x y zero e = inl e
old_or_last (z ∷ xs) x y (suc n) e =
    elim (old_or_last xs x y n e) [ inl p ↦ inl p | inr p ↦ inr (ap suc p.0, p.1) ]
