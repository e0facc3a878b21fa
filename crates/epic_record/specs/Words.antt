-- The words of a line, and what each form of word names.
use Rattle.std.specs.Prelude.{◌≡◌, ℕ, ◌==◌, ◌&&◌, nat_le, Bool, List, take, drop, slice_index, Option, Some, None, option_map, Result, Ok, Err, ⊤}
use Rattle.std.specs.Int.{w16, w32, from_be_bytes}
use Rattle.std.specs.List.{slice_split}
use Rattle.std.specs.Result.{result_ok}
use Rattle.hex.specs.Hex.{decode_sized}
use Rattle.epic_num.specs.declared.hop.Body.{Body}
use Rattle.epic_record.specs.declared.fault.FileKind.{FileKind}
use Rattle.epic_record.specs.declared.fault.FileKind.TheVariants.{BadWord}
use Rattle.epic_record.specs.declared.fault.LineError.{LineError}
use Rattle.epic_record.specs.declared.fault.LineError.TheVariants as line_error

-- a printing character of ASCII, or a space
abbrev pub is_plain_byte : ℕ → Bool
is_plain_byte byte = nat_le 32 byte && nat_le byte 126

abbrev pub is_space : ℕ → Bool
is_space byte = byte == 32

-- the words of a line: the pieces between its single spaces, of which an empty line has one that is empty
abbrev pub pieces : List ℕ → List (List ℕ)
pieces line = slice_split is_space line

-- what follows the value of a word, which is refused where it has none
abbrev pub on_word : {A C : Type 0} → ℕ → Option A → (A → Result C FileKind) → Result C FileKind
on_word word (Some value) next = next value
on_word word None next = Err (BadWord word)

-- what follows the value of several words
abbrev pub on_words : {A C : Type 0} → Result A FileKind → (A → Result C FileKind) → Result C FileKind
on_words (Ok value) next = next value
on_words (Err kind) next = Err kind

-- the hop's body that 18 bytes spell: numbers have the highest byte first
unfoldable pub body_of : List ℕ → Body
body_of bytes = record {
  pos = slice_index bytes 0;
  exp = slice_index bytes 1;
  ts_path = from_be_bytes w32 (take 4 (drop 2 bytes));
  inn = from_be_bytes w16 (take 2 (drop 6 bytes));
  out = from_be_bytes w16 (take 2 (drop 8 bytes));
  link = drop 10 bytes;
}

-- the hop's body that 36 hexadecimal digits spell, in either case
unfoldable pub body_named : List ℕ → Option Body
body_named text = option_map body_of (result_ok (decode_sized text 18))

-- ---- what is read

-- the value of a word, or its refusal, but for memory
abbrev pub IsWord : {A : Type 0} → ℕ → Option A → Result A LineError → Type 0
IsWord word told (Ok value) = told ≡ Some value
IsWord word told (Err (line_error.Refused kind)) = (told ≡ None) × (kind ≡ BadWord word)
IsWord word told (Err line_error.OutOfMemory) = ⊤

-- what a line tells, or its fault, but for memory
abbrev pub IsLine : {A : Type 0} → Result A FileKind → Result A LineError → Type 0
IsLine told (Ok value) = told ≡ Ok value
IsLine told (Err (line_error.Refused kind)) = told ≡ Err kind
IsLine told (Err line_error.OutOfMemory) = ⊤
