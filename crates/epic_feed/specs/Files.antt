-- What a file of a store holds, where contents are told.
use Rattle.std.specs.Prelude.{◌≡◌, List, ℕ, ◌++◌, Option, Some, None, ⊤}
use Rattle.epic_ports.specs.Files.{Files, bytes_at}

-- a file holds these bytes
abbrev pub Holds : Option Files → List ℕ → List ℕ → Type 0
Holds None name bytes = ⊤
Holds (Some files) name bytes = files name ≡ Some bytes

-- a file begins with these bytes
abbrev pub Begins : Option Files → List ℕ → List ℕ → Type 0
Begins None name front = ⊤
Begins (Some files) name front = (rest : List ℕ) × (bytes_at (Some files) name ≡ front ++ rest)

-- a file holds what it held
abbrev pub SameFile : List ℕ → Option Files → Option Files → Type 0
SameFile name None new = ⊤
SameFile name (Some old) None = ⊥
SameFile name (Some old) (Some new) = new name ≡ old name
