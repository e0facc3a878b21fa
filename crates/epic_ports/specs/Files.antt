-- What a store holds, and what its calls do to it. Where a store doesn't tell its contents, nothing
-- is claimed of them.
use Rattle.std.specs.Prelude.{◌≡◌, ◌≢◌, ℕ, ◌+◌, ◌<◌, ◌≤◌, List, [], ◌∷◌, ◌++◌, length, take, drop, true, bytes_eq, Option, Some, None, Result, Ok, Err, ⊤}
use Rattle.std.specs.Global.{Vec}
use Rattle.std.specs.List.{list_any}
use Rattle.epic_ports.specs.declared.error.ReadError.{ReadError}
use Rattle.epic_ports.specs.declared.error.ReadError.TheVariants.{Failed, TooLong, OutOfMemory}

-- the bytes of each name that is there
abbrev pub Files : Type 0
Files = List ℕ → Option (List ℕ)

-- each name that is there is among those of a list
abbrev pub IsFinite : Option Files → Type 0
IsFinite None = ⊤
IsFinite (Some files) =
    (names : List (List ℕ))
    × ((q : List ℕ) → files q ≢ None → list_any (λ name. bytes_eq name q) names ≡ true)

-- the told contents stay as they were
abbrev pub KeepsFiles : Option Files → Option Files → Type 0
KeepsFiles None new = ⊤
KeepsFiles (Some old) None = ⊥
KeepsFiles (Some old) (Some new) = new ≡ old

-- this name now has these bytes, and every other name has what it had
abbrev pub Replaces : Option Files → Option Files → List ℕ → List ℕ → Type 0
Replaces None new name bytes = ⊤
Replaces (Some old) None name bytes = ⊥
Replaces (Some old) (Some new) name bytes =
    (new name ≡ Some bytes) × ((q : List ℕ) → q ≢ name → new q ≡ old q)

-- the bytes of a name, none where it isn't there
abbrev pub bytes_or_none : Option (List ℕ) → List ℕ
bytes_or_none None = []
bytes_or_none (Some bytes) = bytes

-- the bytes of a name of the told contents
abbrev pub bytes_at : Option Files → List ℕ → List ℕ
bytes_at None name = []
bytes_at (Some files) name = bytes_or_none (files name)

-- a piece was added at the end of this name, which was made if it wasn't there; an empty piece
-- changes nothing
abbrev pub Grows : Option Files → Option Files → List ℕ → List ℕ → Type 0
Grows old new name [] = KeepsFiles old new
Grows old new name (byte ∷ bytes) = Replaces old new name (bytes_at old name ++ (byte ∷ bytes))

-- the bytes before some byte were added at the end of this name; that byte and those after it were not
pub record GrowsBefore (old new : Option Files) (name bytes : List ℕ) : Type 0 where
  pub front : List ℕ
  pub byte : ℕ
  pub back : List ℕ
  pub order : bytes ≡ front ++ byte ∷ back
  pub added : Grows old new name front

-- the first n bytes of the buffer are the bytes from `at` on, and none comes only at their end. (At
-- or past the end n is 0 by the first fact.)
pub record GivesPiece (bytes : List ℕ) (at n : ℕ) (buffer : List ℕ) : Type 0 where
  pub piece : drop at bytes ≡ take n buffer ++ drop (at + n) bytes
  pub end : n ≡ 0 → 0 < length buffer → length bytes ≤ at

-- the name is there, and the buffer got its bytes from `at` on
abbrev pub ReadsPiece : Option Files → List ℕ → ℕ → ℕ → List ℕ → Type 0
ReadsPiece None name at n buffer = ⊤
ReadsPiece (Some files) name at n buffer =
    (bytes : List ℕ) × (files name ≡ Some bytes) × GivesPiece bytes at n buffer

-- a whole file of at most `limit` bytes was read, or the file is longer
abbrev pub ReadsFile : Option Files → List ℕ → ℕ → Result (Vec ℕ) ReadError → Type 0
ReadsFile None name limit result = ⊤
ReadsFile (Some files) name limit (Ok v) = (files name ≡ Some v.items) × (length v.items ≤ limit)
ReadsFile (Some files) name limit (Err TooLong) =
    (bytes : List ℕ) × (files name ≡ Some bytes) × (limit < length bytes)
ReadsFile (Some files) name limit (Err Failed) = ⊤
ReadsFile (Some files) name limit (Err OutOfMemory) = ⊤
