-- The first element of a list that passes a test, and its place.
use Rattle.std.proofs.Common.{◌≡◌, ℕ, zero, suc, ◌<◌, Bool, true, false, cond, List, [], ◌∷◌, ◌++◌, length, get_or, Option, Some, None, find, slice_get, option_and_then, option_copied, Bor, refl, ap, sym, ◌∙◌, arith}
use Rattle.std.proofs.lemmas.Bool.{cond-true, cond-false}
use Rattle.std.proofs.lemmas.List.{length_push}
use Rattle.std.proofs.lemmas.Option.{slice_get_past, slice_get_read}
use Rattle.std.specs.Slice.{IsItemAt}
use Rattle.epic_topo.specs.Index.{IsPlace}

-- ---- one more element at the end

pub find_kept : {X : Type 0} (p : X → Bool) (xs : List X) (y : X) → p y ≡ false → find p (xs ++ y ∷ []) ≡ find p xs
find_kept p [] y e = cond-false (p y) (Some y) None e
find_kept p (x ∷ xs) y e = ap (cond (p x) (Some x)) (find_kept p xs y e)

pub find_new : {X : Type 0} (p : X → Bool) (xs : List X) (y : X) → find p xs ≡ None → p y ≡ true → find p (xs ++ y ∷ []) ≡ Some y
find_new p [] y none e = cond-true (p y) (Some y) None e
find_new p (x ∷ xs) y none e =
    elim (p x) as (λ b. cond b (Some x) (find p xs) ≡ None → cond b (Some x) (find p (xs ++ y ∷ [])) ≡ Some y) [
      | true ↦ λ h. cc
      | false ↦ λ h. find_new p xs y h e
    ] none

pub get_kept : {X : Type 0} (xs : List X) (y : X) (i : ℕ) → i < length xs → slice_get (xs ++ y ∷ []) i ≡ slice_get xs i
get_kept [] y i h = absurd (omega arith)
get_kept (x ∷ xs) y zero h = refl
get_kept (x ∷ xs) y (suc i) h = get_kept xs y i (omega arith)

pub get_new : {X : Type 0} (xs : List X) (y : X) → slice_get (xs ++ y ∷ []) (length xs) ≡ Some y
get_new [] y = refl
get_new (x ∷ xs) y = get_new xs y

place_kept : {X : Type 0} (p : X → Bool) (xs : List X) (y : X) (o : Option ℕ) → p y ≡ false → IsPlace p xs o → IsPlace p (xs ++ y ∷ []) o
place_kept p xs y None e h = find_kept p xs y e ∙ h
place_kept p xs y (Some i) e h =
    (omega (arith, length_push xs y), get_kept xs y i h.0 ∙ (h.1 ∙ sym (find_kept p xs y e)))

place_new : {X : Type 0} (p : X → Bool) (xs : List X) (y : X) → find p xs ≡ None → p y ≡ true → IsPlace p (xs ++ y ∷ []) (Some (length xs))
place_new p xs y none e = (omega (arith, length_push xs y), get_new xs y ∙ sym (find_new p xs y none e))

-- the new element has the place at its end, where no earlier one passes
pub place_pushed : {X : Type 0} (p : X → Bool) (xs : List X) (y : X) (o : Option ℕ) (t : Bool) → p y ≡ t
    → (t ≡ true → find p xs ≡ None) → IsPlace p xs o → IsPlace p (xs ++ y ∷ []) (cond t (Some (length xs)) o)
place_pushed p xs y o true e none h = place_new p xs y (none refl) e
place_pushed p xs y o false e none h = place_kept p xs y o e h

-- what stands at the place is what is found
pub at_place : {X : Type 0} (p : X → Bool) (xs : List X) (o : Option ℕ) → IsPlace p xs o → option_and_then (slice_get xs) o ≡ find p xs
at_place p xs None h = sym h
at_place p xs (Some i) h = h.1

-- a lent element is the one at its index
pub lent_item : {X : Type 0} (xs : List X) (i : ℕ) (r : Option (Bor X)) → IsItemAt xs i r → option_copied r ≡ slice_get xs i
lent_item xs i None h = sym (slice_get_past xs i h.3)
lent_item xs i (Some x) h = sym (slice_get_read xs (length xs) i x.now refl h.3.0 h.1)

-- ---- what is found

pub record Found {X : Type 0} (p : X → Bool) (xs : List X) (x : X) : Type 0 where
  pub index : ℕ
  pub within : index < length xs
  pub item : get_or xs index x ≡ x
  pub passes : p x ≡ true

pub found : {X : Type 0} (p : X → Bool) (xs : List X) (x : X) → find p xs ≡ Some x → Found p xs x
found p [] x h = absurd (cc)
found p (y ∷ ys) x h =
    elim (p y) as (λ b. p y ≡ b → cond b (Some y) (find p ys) ≡ Some x → Found p (y ∷ ys) x) [
      | true ↦ λ e s. record { index = 0; within = omega arith; item = (cc); passes = (let same : y ≡ x = cc in ap p (sym same) ∙ e) }
      | false ↦ λ e s. let f = found p ys x s in record { index = suc f.index; within = omega arith; item = f.item; passes = f.passes }
    ] refl h

-- where nothing is found, no element passes
pub missing : {X : Type 0} (p : X → Bool) (xs : List X) → find p xs ≡ None → (k : ℕ) (d : X) → k < length xs → p (get_or xs k d) ≡ false
missing p [] h k d lt = absurd (omega arith)
missing p (x ∷ xs) h zero d lt =
    elim (p x) as (λ b. cond b (Some x) (find p xs) ≡ None → b ≡ false) [ true ↦ λ s. absurd (cc) | false ↦ λ s. refl ] h
missing p (x ∷ xs) h (suc k) d lt =
    elim (p x) as (λ b. cond b (Some x) (find p xs) ≡ None → p (get_or xs k d) ≡ false) [
      | true ↦ λ s. absurd (cc)
      | false ↦ λ s. missing p xs s k d (omega arith)
    ] h

-- an element that passes is found, where each that passes is that one
pub find_only : {X : Type 0} (p : X → Bool) (xs : List X) (x : X) (i : ℕ) → i < length xs → get_or xs i x ≡ x → p x ≡ true
    → ((k : ℕ) → k < length xs → p (get_or xs k x) ≡ true → get_or xs k x ≡ x) → find p xs ≡ Some x
find_only p [] x i lt at passes only = absurd (omega arith)
find_only p (y ∷ ys) x zero lt at passes only = let same : y ≡ x = at in cond-true (p y) (Some y) (find p ys) (ap p same ∙ passes) ∙ ap Some same
find_only p (y ∷ ys) x (suc i) lt at passes only =
    elim (p y) as (λ b. p y ≡ b → cond b (Some y) (find p ys) ≡ Some x) [
      | true ↦ λ e. ap Some (only 0 (omega arith) e)
      | false ↦ λ e. find_only p ys x i (omega arith) at passes (λ k h. only (suc k) (omega arith))
    ] refl
