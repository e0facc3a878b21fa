-- What is found in a list passes the test, and where nothing is found, nothing does.
use Rattle.std.proofs.Common.{◌≡◌, ℕ, zero, suc, ◌<◌, Bool, true, false, ◌||◌, cond, List, [], ◌∷◌, length, Option, Some, None, find, slice_get, refl, ap, sym, ◌∙◌, arith, inl, inr}
use Rattle.std.specs.Prelude.{nat_lt}
use Rattle.std.specs.List.{list_any, position, position_or_len}
use Rattle.std.proofs.lemmas.Bool.{ltb-true, ltb-false}
use Rattle.std.proofs.lemmas.List.Folds.{find_at}
use Rattle.std.proofs.lemmas.Option.{cond_some, slice_get_past, slice_get_cases}

pub record Found {X : Type 0} (p : X → Bool) (xs : List X) (x : X) : Type 0 where
  pub index : ℕ
  pub there : slice_get xs index ≡ Some x
  pub passes : p x ≡ true

pub found : {X : Type 0} (p : X → Bool) (xs : List X) (x : X) → find p xs ≡ Some x → Found p xs x
found p [] x h = absurd (cc)
found p (y ∷ ys) x h =
    elim (p y) as (λ b. p y ≡ b → cond b (Some y) (find p ys) ≡ Some x → Found p (y ∷ ys) x) [
      | true ↦ λ e s. record { index = 0; there = s; passes = (let same : y ≡ x = cc in ap p (sym same) ∙ e) }
      | false ↦ λ e s. let f = found p ys x s in record { index = suc f.index; there = f.there; passes = f.passes }
    ] refl h

pub missing : {X : Type 0} (p : X → Bool) (xs : List X) → find p xs ≡ None → (n : ℕ) (x : X) → slice_get xs n ≡ Some x → p x ≡ false
missing p [] h n x there = absurd (cc)
missing p (y ∷ ys) h zero x there =
    let same : y ≡ x = cc in
    elim (p y) as (λ b. p y ≡ b → cond b (Some y) (find p ys) ≡ None → p x ≡ false) [
      | true ↦ λ e s. absurd (cc)
      | false ↦ λ e s. ap p (sym same) ∙ e
    ] refl h
missing p (y ∷ ys) h (suc n) x there =
    elim (p y) as (λ b. cond b (Some y) (find p ys) ≡ None → p x ≡ false) [
      | true ↦ λ s. absurd (cc)
      | false ↦ λ s. missing p ys s n x there
    ] h

-- what passes is found, where nothing else does
pub found_only : {X : Type 0} (p : X → Bool) (xs : List X) (n : ℕ) (x : X) → slice_get xs n ≡ Some x → p x ≡ true
    → ((m : ℕ) (y : X) → slice_get xs m ≡ Some y → p y ≡ true → m ≡ n) → find p xs ≡ Some x
found_only p xs n x there passes alone = by (find p xs) refl
  where
    by : (o : Option _) → find p xs ≡ o → find p xs ≡ Some x
    by None e = let fails = missing p xs e n x there in absurd (cc)
    by (Some y) e =
        let f = found p xs y e in
        let at_n : slice_get xs n ≡ Some y = ap (slice_get xs) (sym (alone f.index y f.there f.passes)) ∙ f.there in
        e ∙ (sym at_n ∙ there)

pub found_at : {X : Type 0} (p : X → Bool) (xs : List X) (i : ℕ) → position p xs ≡ Some i → (x : X) × (slice_get xs i ≡ Some x) × (p x ≡ true)
found_at {X} p xs i h =
    let c = cond_some (nat_lt (position_or_len p xs) (length xs)) (position_or_len p xs) i h in
    let inside : position_or_len p xs < length xs = ltb-true _ _ c.0 in
    elim (slice_get_cases xs i).1 [
      | inl there ↦ (there.0, there.2, (found p xs there.0 (find_at p xs ∙ (ap (slice_get xs) c.1 ∙ there.2))).passes)
      | inr past ↦ (let is = c.1 in let out = past.0 in absurd (omega arith))
    ]

pub missing_at : {X : Type 0} (p : X → Bool) (xs : List X) → position p xs ≡ None → find p xs ≡ None
missing_at p xs h = by (nat_lt (position_or_len p xs) (length xs)) refl h
  where
    by : (b : Bool) → nat_lt (position_or_len p xs) (length xs) ≡ b → cond b (Some (position_or_len p xs)) None ≡ None → find p xs ≡ None
    by true e s = absurd (cc)
    by false e s = find_at p xs ∙ slice_get_past xs (position_or_len p xs) (ltb-false _ _ e)

pub any_there : {X : Type 0} (p : X → Bool) (xs : List X) → list_any p xs ≡ true → (n : ℕ) × (x : X) × (slice_get xs n ≡ Some x) × (p x ≡ true)
any_there p [] h = absurd (cc)
any_there p (y ∷ ys) h =
    elim (p y) as (λ b. p y ≡ b → (b || list_any p ys) ≡ true → (n : ℕ) × (x : _) × (slice_get (y ∷ ys) n ≡ Some x) × (p x ≡ true)) [
      | true ↦ λ e s. (0, y, refl, e)
      | false ↦ λ e s. let f = any_there p ys s in (suc f.0, f.1, f.2, f.3)
    ] refl h

pub none_there : {X : Type 0} (p : X → Bool) (xs : List X) → list_any p xs ≡ false → (n : ℕ) (x : X) → slice_get xs n ≡ Some x → p x ≡ false
none_there p [] h n x there = absurd (cc)
none_there p (y ∷ ys) h zero x there =
    let same : y ≡ x = cc in
    elim (p y) as (λ b. p y ≡ b → (b || list_any p ys) ≡ false → p x ≡ false) [
      | true ↦ λ e s. absurd (cc)
      | false ↦ λ e s. ap p (sym same) ∙ e
    ] refl h
none_there p (y ∷ ys) h (suc n) x there =
    elim (p y) as (λ b. (b || list_any p ys) ≡ false → p x ≡ false) [
      | true ↦ λ s. absurd (cc)
      | false ↦ λ s. none_there p ys s n x there
    ] h
