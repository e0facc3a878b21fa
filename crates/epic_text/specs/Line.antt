-- Lines of a report.
use Rattle.std.specs.Prelude.{◌≡◌, ℕ, List, [], ◌∷◌, ◌++◌, Result, OnOk, OnErr, codes, decimal}
use Rattle.hex.specs.Hex.{encode_lower}
use Rattle.epic_audit.specs.ForgedText.{words_text}

-- a line: the number of its step, a space, the words, a line feed
abbrev pub line_of : ℕ → List ℕ → List ℕ
line_of step words = decimal step ++ (32 ∷ (words ++ (10 ∷ [])))

abbrev pub step_line : ℕ → List (List ℕ) → List ℕ
step_line step words = line_of step (words_text words)

-- bytes in lower-case hexadecimal digits, and none as `-`
unfoldable pub bytes_text : List ℕ → List ℕ
bytes_text [] = codes "-"
bytes_text (byte ∷ bytes) = encode_lower (byte ∷ bytes)

-- the text was appended, or nothing was where memory was wanting
abbrev pub Prints : {E : Type 0} → List ℕ → List ℕ → List ℕ → Result (Unit {0}) E → Type 0
Prints old new text result = OnOk result (new ≡ old ++ text) × OnErr result (new ≡ old)
