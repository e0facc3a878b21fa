-- The lines that are printed.
use Rattle.std.specs.Prelude.{◌≡◌, ℕ, ◌*◌, ◌/◌, ◌%◌, List, [], ◌++◌, codes, decimal}
use Rattle.hex.specs.Hex.{encode_lower}
use Rattle.epic_bench.specs.declared.work.Work.{Work}
use Rattle.epic_bench.specs.Works.{IsDigest, name_of, operations, unit_of}

-- texts in a row, grouped to the right
infixr 65 ◌⊕◌
abbrev pub ◌⊕◌ : List ℕ → List ℕ → List ℕ
a ⊕ b = a ++ b

-- a work's name, its operations, the digest in hexadecimal digits, and what follows
unfoldable pub line : Work → ℕ → List ℕ → List ℕ → List ℕ
line work rounds digest more =
    name_of work
    ⊕ (codes " "
    ⊕ (decimal (operations work rounds) ⊕ (codes " " ⊕ (unit_of work ⊕ (codes " " ⊕ (encode_lower digest ⊕ (more ⊕ codes "\n")))))))

-- the tenths of a nanosecond that an operation took
abbrev pub tenths : ℕ → ℕ → ℕ
tenths nanos operations = nanos * 10 / operations

-- the nanoseconds that an operation took, where all took so many
abbrev pub time_text : ℕ → ℕ → List ℕ
time_text nanos operations =
    codes " " ⊕ (decimal (tenths nanos operations / 10) ⊕ (codes "." ⊕ (decimal (tenths nanos operations % 10) ⊕ codes " ns")))

-- the line of a work with some time
abbrev pub IsTimedLine : Work → ℕ → List ℕ → Type 0
IsTimedLine work rounds text =
    (digest : List ℕ) × IsDigest work rounds digest
    × ((nanos : ℕ) × (text ≡ line work rounds digest (time_text nanos (operations work rounds))))

-- and without one
abbrev pub IsLine : Work → ℕ → List ℕ → Type 0
IsLine work rounds text = (digest : List ℕ) × IsDigest work rounds digest × (text ≡ line work rounds digest [])
