-- Numbers with commas between them.
use Rattle.std.proofs.Common.{◌≡◌, ℕ, ◌<◌, List, [], ◌∷◌, ◌++◌, length, decimal, refl, arith}
use Rattle.epic_text.specs.Report.{numbers_text}

-- a number before others
pub numbers_text_cons : (number : ℕ) (more : List ℕ) → 0 < length more → numbers_text (number ∷ more) ≡ decimal number ++ (44 ∷ numbers_text more)
numbers_text_cons number [] some = absurd (omega (arith, some))
numbers_text_cons number (next ∷ more) some = refl
