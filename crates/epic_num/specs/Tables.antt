-- Tables of tests: each row has a test and what it tells, and the first row whose test is met decides.
use Rattle.std.specs.Prelude.{Bool, List, [], ◌∷◌, Option, None, Some, Result, Ok, Err, if◌then◌else◌}

-- what the first row whose test is met tells, if there is one
abbrev pub first_row : {X : Type 0} → List (Bool × X) → Option X
first_row [] = None
first_row (row ∷ rows) = if row.0 then Some row.1 else first_row rows

-- the value, unless there is an error
abbrev pub unless : {X E : Type 0} → Option E → X → Result X E
unless None x = Ok x
unless (Some e) x = Err e
