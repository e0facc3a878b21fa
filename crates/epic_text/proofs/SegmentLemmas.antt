-- Numbers that words write.
use Rattle.std.proofs.Common.{ℕ, List, ◌++◌, Option, map}
use Rattle.std.specs.Prelude.{option_map}
use Rattle.std.specs.Borrow.{Bor}
use Rattle.epic_num.specs.Names.{number_within}
use Rattle.epic_text.specs.RunScript.{all_there, most32}

-- the numbers of all words, however many there are
abbrev pub numbers_from : List (Bor (List ℕ)) → Option (List ℕ)
numbers_from parts = all_there (map (number_within most32) (map (λ part. part.now) parts))

-- numbers that were found, and then these
abbrev pub after : List ℕ → Option (List ℕ) → Option (List ℕ)
after found rest = option_map (λ values. found ++ values) rest
