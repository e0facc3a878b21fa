-- The first row of a table whose test is met.
use Rattle.std.proofs.Common.{◌≡◌, Bool, true, false, List, [], ◌∷◌, ◌++◌, Option, None, Some, Ok, refl, if◌then◌else◌}
use Rattle.epic_num.specs.Tables.{first_row, unless}

-- where a table tells nothing, its first test is not met, and the rest tells nothing
pub row_passed : {X : Type 0} (row : Bool × X) (rest : Option X) → (if row.0 then Some row.1 else rest) ≡ None → (row.0 ≡ false) × (rest ≡ None)
row_passed (true, x) rest e = absurd (cc)
row_passed (false, x) rest e = (refl, e)

-- behind a table that tells nothing the next one decides
pub first_row-behind : {X : Type 0} (xs ys : List (Bool × X)) → first_row xs ≡ None → first_row (xs ++ ys) ≡ first_row ys
first_row-behind [] ys e = refl
first_row-behind ((true, x) ∷ xs) ys e = absurd (cc)
first_row-behind ((false, x) ∷ xs) ys e = first_row-behind xs ys e

-- what a table tells is told whatever stands behind it
pub first_row-before : {X : Type 0} (xs ys : List (Bool × X)) (told : X) → first_row xs ≡ Some told → first_row (xs ++ ys) ≡ Some told
first_row-before [] ys told e = absurd (cc)
first_row-before ((true, x) ∷ xs) ys told e = e
first_row-before ((false, x) ∷ xs) ys told e = first_row-before xs ys told e

-- for `using` in a table's parts tried one after the other
pub ruleset tables = (first_row-behind, first_row-before)

-- where two tables together tell nothing, neither does
pub all_passed : {X : Type 0} (xs ys : List (Bool × X)) → first_row (xs ++ ys) ≡ None → (first_row xs ≡ None) × (first_row ys ≡ None)
all_passed [] ys e = (refl, e)
all_passed ((true, x) ∷ xs) ys e = absurd (cc)
all_passed ((false, x) ∷ xs) ys e = all_passed xs ys e

-- a value that is told was told without an error
pub unless_ok : {X E : Type 0} (error : Option E) (x y : X) → unless error x ≡ Ok y → (error ≡ None) × (x ≡ y)
unless_ok None x y e = (refl, cc)
unless_ok (Some error) x y e = absurd (cc)
