use Rattle.std.proofs.Common.{◌≡◌, List, ℕ, ◌++◌, length, drop, Option, Some, None}
use Rattle.std.specs.Prelude.{⊤}
use Rattle.epic_ports.specs.Files.{Files}

-- the bytes are the first of this file, if it is there
abbrev pub HasFront : Option Files → List ℕ → List ℕ → Type 0
HasFront None name bytes = ⊤
HasFront (Some files) name bytes =
    (all : List ℕ) → files name ≡ Some all → all ≡ bytes ++ drop (length bytes) all
