-- How the commands of a text come together line by line.
use Rattle.std.proofs.Common.{◌≡◌, ℕ, ◌+◌, ◌<◌, ltb, cond, Option, Result, Ok, Err, List, [], ◌∷◌, ◌++◌, length, refl, ap, sym, ◌∙◌, arith, append_assoc, length-append}
use Rattle.std.proofs.lemmas.Bool.Decides.{nat_tests}
use Rattle.epic_text.specs.declared.script.TheConstants.{MAX_COMMANDS}
use Rattle.epic_text.specs.declared.script.ScriptKind.{ScriptKind}
use Rattle.epic_text.specs.declared.script.ScriptKind.TheVariants.{TooMany}
use Rattle.epic_text.specs.Lines.{lines}
use Rattle.epic_text.specs.Script.{Rule, Fault, line_command, at_line, numbered, with_front, commands_after}

with_front-with_front : {C : Type 0} (front : List C) (command : C) (r : Result (List C) Fault) →
    with_front front (with_front (command ∷ []) r) ≡ with_front (front ++ command ∷ []) r
with_front-with_front front command (Ok commands) = ap Ok (sym (append_assoc front (command ∷ []) commands))
with_front-with_front front command (Err fault) = refl

cond_below : {X : Type 0} (m n : ℕ) (x y : X) → m < n → cond (ltb m n) x y ≡ x
cond_below m n x y h = grind (arith, nat_tests)

-- a command below the greatest number joins those found before
pub one_more : {C : Type 0} (told : Result (List C) Fault) (found : List C) (number : ℕ) (command : C) (more : List (ℕ × Result C ScriptKind)) →
    told ≡ with_front found (commands_after (length found) ((number, Ok command) ∷ more)) → length found < MAX_COMMANDS →
    told ≡ with_front (found ++ command ∷ []) (commands_after (length (found ++ command ∷ [])) more)
one_more told found number command more so_far below =
    let longer : length (found ++ command ∷ []) ≡ length found + 1 = omega (arith, length-append found (command ∷ [])) in
    let r = commands_after (length found + 1) more in
    rw longer (so_far ∙ ap (with_front found) (cond_below (length found) MAX_COMMANDS (with_front (command ∷ []) r) (Err (number, TooMany)) below) ∙ with_front-with_front found command r)

-- the first of the lines, whose command or fault is known
pub at_first : {C : Type 0} (rule : Rule C) (number : ℕ) (rest line after : List ℕ) (t : Result (Option C) ScriptKind) →
    lines rest ≡ line ∷ lines after → line_command rule line ≡ t → numbered rule number (lines rest) ≡ at_line number t (numbered rule (number + 1) (lines after))
at_first rule number rest line after t first is =
    ap (numbered rule number) first ∙ ap (λ (s : _). at_line number s (numbered rule (number + 1) (lines after))) is
