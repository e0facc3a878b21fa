-- The commands of a script, or its first fault. A rule takes the first word of a line and the words after it to a
-- command or a fault.
use Rattle.std.specs.Prelude.{◌≡◌, ℕ, ◌+◌, ◌^◌, ◌<◌, ◌==◌, nat_lt, slice_index, length, Bool, if◌then◌else◌, List, [], ◌∷◌, ◌++◌, Option, Some, None, Result, Ok, Err, ⊤}
use Rattle.std.specs.Global.{Vec}
use Rattle.std.specs.List.{list_all}
use Rattle.epic_text.specs.Lines.{is_text_byte, lines, words}
use Rattle.epic_text.specs.declared.script.TheConstants.{MAX_COMMANDS}
use Rattle.epic_text.specs.declared.script.ScriptKind.{ScriptKind}
use Rattle.epic_text.specs.declared.script.ScriptKind.TheVariants.{NotText, TooMany}
use Rattle.epic_text.specs.declared.script.ScriptError.{ScriptError}
use Rattle.epic_text.specs.declared.script.ScriptError.TheVariants as script_error
use Rattle.epic_text.specs.declared.script.WordsError.{WordsError}
use Rattle.epic_text.specs.declared.script.WordsError.TheVariants as words_error

-- a text whose bytes can be counted in 32 bits
abbrev pub IsShort : List ℕ → Type 0
IsShort text = length text < 2 ^ 32

abbrev pub Rule : Type 0 → Type 0
Rule C = List ℕ → List (List ℕ) → Result C ScriptKind

-- a word that begins with a number sign
abbrev pub is_comment : List ℕ → Bool
is_comment word = slice_index word 0 == 35

abbrev pub some_command : {C : Type 0} → Result C ScriptKind → Result (Option C) ScriptKind
some_command (Ok command) = Ok (Some command)
some_command (Err kind) = Err kind

-- no words, and those of a comment, are no command and no fault
abbrev pub words_command : {C : Type 0} → Rule C → List (List ℕ) → Result (Option C) ScriptKind
words_command rule [] = Ok None
words_command rule (verb ∷ arguments) =
    if is_comment verb then Ok None else some_command (rule verb arguments)

-- the command of a line, if it has one, or its fault; a byte that is no text is told first
abbrev pub line_command : {C : Type 0} → Rule C → List ℕ → Result (Option C) ScriptKind
line_command rule line = if list_all is_text_byte line then words_command rule (words line) else Err NotText

abbrev pub at_line : {C : Type 0} → ℕ → Result (Option C) ScriptKind
    → List (ℕ × Result C ScriptKind) → List (ℕ × Result C ScriptKind)
at_line number (Ok None) more = more
at_line number (Ok (Some command)) more = (number, Ok command) ∷ more
at_line number (Err kind) more = (number, Err kind) ∷ more

-- the commands and the faults of lines, each with the number of its line, which is `number` at the first
abbrev pub numbered : {C : Type 0} → Rule C → ℕ → List (List ℕ) → List (ℕ × Result C ScriptKind)
numbered rule number [] = []
numbered rule number (line ∷ more) = at_line number (line_command rule line) (numbered rule (number + 1) more)

-- a line, and why it is refused
abbrev pub Fault : Type 0
Fault = ℕ × ScriptKind

-- the commands, after others that came before
abbrev pub with_front : {C : Type 0} → List C → Result (List C) Fault → Result (List C) Fault
with_front front (Ok commands) = Ok (front ++ commands)
with_front front (Err fault) = Err fault

-- the commands in order, or the first fault; a command after the greatest number of commands is one, too
abbrev pub commands_after : {C : Type 0} → ℕ → List (ℕ × Result C ScriptKind) → Result (List C) Fault
commands_after count [] = Ok []
commands_after count ((line, Err kind) ∷ more) = Err (line, kind)
commands_after count ((line, Ok command) ∷ more) =
    if nat_lt count MAX_COMMANDS then with_front (command ∷ []) (commands_after (count + 1) more)
    else Err (line, TooMany)

-- the commands of a text, or its first fault. Lines count from 1.
abbrev pub commands_of : {C : Type 0} → Rule C → List ℕ → Result (List C) Fault
commands_of rule text = commands_after 0 (numbered rule 1 (lines text))

-- an answer by a rule, but for memory
abbrev pub IsByRule : {C : Type 0} → Result C ScriptKind → Result C WordsError → Type 0
IsByRule told (Ok command) = told ≡ Ok command
IsByRule told (Err (words_error.Refused kind)) = told ≡ Err kind
IsByRule told (Err words_error.OutOfMemory) = ⊤

-- the commands of a text or its fault, but for memory
abbrev pub IsScript : {C : Type 0} → Result (List C) Fault → Result (Vec C) ScriptError → Type 0
IsScript told (Ok commands) = told ≡ Ok commands.items
IsScript told (Err (script_error.Bad line kind)) = told ≡ Err (line, kind)
IsScript told (Err script_error.OutOfMemory) = ⊤
