-- What tests over options and lists decide.
use Rattle.std.proofs.Common.{◌≡◌, ℕ, zero, suc, Bool, true, false, not, ◌||◌, List, [], ◌∷◌, refl, ap, sym, ◌∙◌, subst}
use Rattle.std.specs.Bool.{Decides}
use Rattle.std.specs.Prelude.{Option, Some, None, is_some, is_none, slice_get}
use Rattle.std.specs.List.{list_any}
use Rattle.std.specs.Option.{option_map_or}
use Rattle.std.proofs.lemmas.Bool.{or_left, or_right}
use Rattle.std.proofs.lemmas.Bool.Decides.{Decides-eqb, Decides-like}
use Rattle.std.proofs.lemmas.Option.{same_Some}
use Rattle.epic_audit.proofs.Finds.{any_there}
use Rattle.epic_judging.specs.HopTests.{is_number}

-- ---- options

pub there-Decides : {X P : Type 0} (o : Option X) → ((x : X) → o ≡ Some x → P) → (o ≡ None → P → ⊥) → Decides (is_some o) P
there-Decides None some fails = (λ e. absurd (cc), λ p. absurd (fails refl p))
there-Decides (Some x) some fails = (λ e. some x refl, λ p. refl)

pub missing-Decides : {X P : Type 0} (o : Option X) → ((x : X) → o ≡ Some x → P → ⊥) → (o ≡ None → P) → Decides (is_none o) P
missing-Decides None fails some = (λ e. some refl, λ p. refl)
missing-Decides (Some x) fails some = (λ e. absurd (cc), λ p. absurd (fails x refl p))

pub is_number-Decides : (n : ℕ) (o : Option ℕ) → Decides (is_number n o) (o ≡ Some n)
is_number-Decides n None = (λ e. absurd (cc), λ e. absurd (cc))
is_number-Decides n (Some m) = Decides-like _ (λ e. ap Some e) (λ e. same_Some m n e) (Decides-eqb m n)

-- what is there passes a test
pub record Passes {X : Type 0} (P : X → Type 0) (o : Option X) : Type 0 where
  pub value : X
  pub is : o ≡ Some value
  pub passes : P value

pub passes-Decides : {X : Type 0} (p : X → Bool) (P : X → Type 0) → ((x : X) → Decides (p x) (P x)) → (o : Option X)
    → Decides (option_map_or p o false) (Passes P o)
passes-Decides p P each None = (λ e. absurd (cc), λ h. let is = h.is in absurd (cc))
passes-Decides p P each (Some x) =
    Decides-like _
    (λ h. record { value = x; is = refl; passes = h })
    (λ h. subst P (sym (same_Some x h.value h.is)) h.passes)
    (each x)

-- ---- tests

pub implies-Decides : {Q : Type 0} (t s : Bool) → Decides s Q → Decides (not t || s) (t ≡ true → Q)
implies-Decides true s d = (λ e h. d.0 e, λ q. d.1 (q refl))
implies-Decides false s d = (λ e h. absurd (cc), λ q. refl)

-- ---- lists

-- an element of which this is true
pub record Has {X : Type 0} (P : X → Type 0) (xs : List X) : Type 0 where
  pub index : ℕ
  pub element : X
  pub there : slice_get xs index ≡ Some element
  pub is : P element

pub any_from : {X : Type 0} (p : X → Bool) (xs : List X) (n : ℕ) (x : X) → slice_get xs n ≡ Some x → p x ≡ true → list_any p xs ≡ true
any_from p [] n x there e = absurd (cc)
any_from p (y ∷ ys) zero x there e = or_left (p y) (list_any p ys) (ap p (same_Some y x there) ∙ e)
any_from p (y ∷ ys) (suc n) x there e = or_right (p y) (list_any p ys) (any_from p ys n x there e)

pub any-Decides : {X : Type 0} (p : X → Bool) (P : X → Type 0) → ((x : X) → Decides (p x) (P x)) → (xs : List X) → Decides (list_any p xs) (Has P xs)
any-Decides p P each xs = (
  λ e. let a = any_there p xs e in record { index = a.0; element = a.1; there = a.2; is = (each a.1).0 a.3 },
  λ h. any_from p xs h.index h.element h.there ((each h.element).1 h.is),
)
