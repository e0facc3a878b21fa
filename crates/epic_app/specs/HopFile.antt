-- The lines of the file of `hop`: `issue BODY` and `check BODY FIELD`, in hexadecimal digits of either case.
use Rattle.std.specs.Prelude.{ℕ, List, [], ◌∷◌, Result, Ok, Err, codes, bytes_eq, if◌then◌else◌}
use Rattle.hex.specs.Hex.{decode_sized}
use Rattle.hex.specs.declared.error.FromHexError.{FromHexError}
use Rattle.epic_app.specs.declared.hop_file.HopCommand.{HopCommand}
use Rattle.epic_app.specs.declared.hop_file.HopCommand.TheVariants.{Issue, Check}
use Rattle.epic_text.specs.declared.script.ScriptKind.{ScriptKind}
use Rattle.epic_text.specs.declared.script.ScriptKind.TheVariants.{UnknownVerb, WordCount, BadWord}
use Rattle.epic_app.specs.Spelling.{body_of}

-- what follows the bytes of a word, which is refused where it doesn't spell them
abbrev pub on_bytes : {C : Type 0} → ℕ → Result (List ℕ) FromHexError
    → (List ℕ → Result C ScriptKind) → Result C ScriptKind
on_bytes word (Ok bytes) next = next bytes
on_bytes word (Err error) next = Err (BadWord word)

-- a body has 18 bytes
abbrev pub issue_of : List (List ℕ) → Result HopCommand ScriptKind
issue_of (body ∷ []) = on_bytes 2 (decode_sized body 18) (λ b. Ok (Issue (body_of b)))
issue_of arguments = Err WordCount

-- and a field 3
abbrev pub check_of : List (List ℕ) → Result HopCommand ScriptKind
check_of (body ∷ field ∷ []) =
    on_bytes 2 (decode_sized body 18) (λ b. on_bytes 3 (decode_sized field 3) (λ f. Ok (Check (body_of b) f)))
check_of arguments = Err WordCount

abbrev pub hop_rule : List ℕ → List (List ℕ) → Result HopCommand ScriptKind
hop_rule verb arguments =
    if bytes_eq verb (codes "issue") then issue_of arguments
    else if bytes_eq verb (codes "check") then check_of arguments
    else Err UnknownVerb
