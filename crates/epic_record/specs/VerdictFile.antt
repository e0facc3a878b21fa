-- What a verdict file tells of the acceptances, or its first fault.
use Rattle.std.specs.Prelude.{ℕ, ◌+◌, ◌==◌, nat_lt, List, [], ◌∷◌, length, Option, Some, None, Result, Ok, Err, codes, bytes_eq, if◌then◌else◌}
use Rattle.std.specs.List.{list_all}
use Rattle.epic_num.specs.Names.{number_within}
use Rattle.epic_audit.specs.Holds.{Subject, AtHop, AtDest}
use Rattle.epic_text.specs.Lines.{parts}
use Rattle.epic_text.specs.RunScript.{most8}
use Rattle.epic_record.specs.declared.fault.FileKind.{FileKind}
use Rattle.epic_record.specs.declared.fault.FileKind.TheVariants.{NotText, UnknownVerb, WordCount, BadPlace, Missing, Extra, TooLong}
use Rattle.epic_record.specs.declared.told.Told.{Told}
use Rattle.epic_record.specs.LedgerFile.{Fault, on_line}
use Rattle.epic_record.specs.VerdictLines.{Acceptance}
use Rattle.epic_record.specs.VerdictWords.{verdict_of}
use Rattle.epic_record.specs.Words.{is_plain_byte, pieces}

-- ---- a line

-- a hop's line may only have the index of the hop
abbrev pub at_index : ℕ → Option ℕ → Result Told FileKind → Result Told FileKind
at_index hop at (Err kind) = Err kind
at_index hop None (Ok told) = Err BadPlace
at_index hop (Some index) (Ok told) = if index == hop then Ok told else Err BadPlace

-- `hop J VERDICT`, the words after `hop`
abbrev pub hop_verdict_of : ℕ → List (List ℕ) → Result Told FileKind
hop_verdict_of hop [] = Err WordCount
hop_verdict_of hop (index ∷ verdict) =
    at_index hop (number_within most8 index) (verdict_of 3 (number_within most8 index) verdict)

-- what the words of a hop's line tell
abbrev pub hop_told : ℕ → List (List ℕ) → Result Told FileKind
hop_told hop [] = Err UnknownVerb
hop_told hop (verb ∷ more) = if bytes_eq verb (codes "hop") then hop_verdict_of hop more else Err UnknownVerb

-- what the words of a destination's line tell: `dest VERDICT`
abbrev pub dest_told : List (List ℕ) → Result Told FileKind
dest_told [] = Err UnknownVerb
dest_told (verb ∷ verdict) = if bytes_eq verb (codes "dest") then verdict_of 2 (Some 0) verdict else Err UnknownVerb

-- what a line tells by its words; a byte that is no text is told first
abbrev pub told_line : (List (List ℕ) → Result Told FileKind) → List ℕ → Result Told FileKind
told_line by line = if list_all is_plain_byte line then by (pieces line) else Err NotText

-- what a line tells of an accepted hop, by its index, or its fault
unfoldable pub told_at_hop : ℕ → List ℕ → Result Told FileKind
told_at_hop hop line = told_line (hop_told hop) line

-- what a line tells of a packet at its destination, or its fault
unfoldable pub told_at_dest : List ℕ → Result Told FileKind
told_at_dest line = told_line dest_told line

-- what a line tells of an acceptance
abbrev pub told_in : Subject → List ℕ → Result Told FileKind
told_in (AtHop a generation hop) line = told_at_hop hop line
told_in AtDest line = told_at_dest line

-- ---- the file

abbrev pub with_told : Told → Result (List Told) Fault → Result (List Told) Fault
with_told told (Ok more) = Ok (told ∷ more)
with_told told (Err fault) = Err fault

-- What lines tell of the acceptances, one line each; the first line has this number. A line too many is refused whatever it holds.
abbrev pub told_after : ℕ → List Acceptance → List (List ℕ) → Result (List Told) Fault
told_after number [] [] = Ok []
told_after number (a ∷ more) [] = Err (number, Missing)
told_after number [] (line ∷ lines) = Err (number, Extra)
told_after number (a ∷ more) (line ∷ lines) =
    on_line number (told_in a.subject line) (λ told. with_told told (told_after (number + 1) more lines))

-- the greatest number of a verdict file's bytes
abbrev pub most_verdicts : ℕ
most_verdicts = 67108864

-- what a verdict file tells of the acceptances, one line each, or its first fault
unfoldable pub verdict_file : List Acceptance → List ℕ → Result (List Told) Fault
verdict_file accepted bytes =
    if nat_lt most_verdicts (length bytes) then Err (0, TooLong) else told_after 1 accepted (parts bytes)
