-- The one text of each value, and where a text leaves the form that it is to have.
use Rattle.std.specs.Prelude.{◌≡◌, ◌↔◌, ℕ, ◌≤◌, List, ◌++◌, length, take, Option, None, Some}

-- each value that can be read has one text, which alone is read as it
abbrev pub HasOneSpelling : {A : Type 0} → (List ℕ → Option A) → (A → Type 0) → (A → List ℕ) → Type 0
HasOneSpelling {A} form IsReadable text_of =
    (text : List ℕ) (a : A) → (form text ≡ Some a) ↔ (IsReadable a × (text ≡ text_of a))

-- some text of the form begins with the front
pub record Begins {A : Type 0} (form : List ℕ → Option A) (front : List ℕ) : Type 0 where
  pub rest : List ℕ
  pub value : A
  pub whole : form (front ++ rest) ≡ Some value

-- the text isn't of the form, and its longest front that begins a text of the form has `at` bytes
pub record IsMisspelt {A : Type 0} (form : List ℕ → Option A) (text : List ℕ) (at : ℕ) : Type 0 where
  pub unread : form text ≡ None
  pub in_text : at ≤ length text
  pub begins : Begins form (take at text)
  pub longest : (k : ℕ) → k ≤ length text → Begins form (take k text) → k ≤ at
