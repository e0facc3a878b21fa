-- What was written to a sink. Where a sink doesn't tell it, nothing is claimed.
use Rattle.std.specs.Prelude.{◌≡◌, ℕ, ◌<◌, ◌≤◌, List, ◌∷◌, ◌++◌, length, Option, Result, IfOk}
pub use Rattle.std.specs.Io.KnownBytes.{Appends, Keeps, WriteAppends}

-- on `Ok(n)`, n is at most the length of the piece, and at least 1 unless the piece is empty
abbrev pub TakesSome : {E : Type 0} → Result ℕ E → List ℕ → Type 0
TakesSome result bytes = IfOk result (λ n. (n ≤ length bytes) × (0 < length bytes → 0 < n))

-- a front of the bytes was added at the end
abbrev pub AppendsFront : Option (List ℕ) → Option (List ℕ) → List ℕ → Type 0
AppendsFront old new bytes =
    (front : List ℕ) × (back : List ℕ) × (bytes ≡ front ++ back) × Appends old new front

-- the bytes before some byte were added at the end; that byte and those after it were not
pub record WritesBefore (old new : Option (List ℕ)) (bytes : List ℕ) : Type 0 where
  pub front : List ℕ
  pub byte : ℕ
  pub back : List ℕ
  pub order : bytes ≡ front ++ byte ∷ back
  pub written : Appends old new front
