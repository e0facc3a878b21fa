-- A text in lines, and a line in words.
use Rattle.std.specs.Prelude.{ℕ, ◌==◌, ◌||◌, ◌&&◌, nat_le, nat_lt, Bool, if◌then◌else◌, List, [], ◌∷◌, length, map, filter}
use Rattle.std.specs.List.{slice_split}
use Rattle.std.specs.Str.Lines.{strip_carriage_return}

-- a line feed
abbrev pub is_line_feed : ℕ → Bool
is_line_feed byte = byte == 10

-- a space or a tab
abbrev pub is_blank : ℕ → Bool
is_blank byte = byte == 32 || byte == 9

-- a printing character of ASCII, a space or a tab
abbrev pub is_text_byte : ℕ → Bool
is_text_byte byte = (nat_le 32 byte && nat_le byte 126) || byte == 9

-- parts without an empty one at the end
abbrev pub without_empty_last : List (List ℕ) → List (List ℕ)
without_empty_last [] = []
without_empty_last (part ∷ []) = if nat_lt 0 (length part) then part ∷ [] else []
without_empty_last (part ∷ next ∷ more) = part ∷ without_empty_last (next ∷ more)

-- the parts of a text that line feeds end; the last may lack its line feed
abbrev pub parts : List ℕ → List (List ℕ)
parts text = without_empty_last (slice_split is_line_feed text)

-- the lines of a text: its parts, each without one carriage return at its end
abbrev pub lines : List ℕ → List (List ℕ)
lines text = map strip_carriage_return (parts text)

-- the words of a line, which blanks separate
abbrev pub words : List ℕ → List (List ℕ)
words line = filter (λ word. nat_lt 0 (length word)) (slice_split is_blank line)
