-- The report of `hop`: what each line of its file is answered, under a forwarding key.
use Rattle.std.specs.Prelude.{◌≡◌, ◌≢◌, ℕ, ◌+◌, Bool, true, false, if◌then◌else◌, List, [], ◌∷◌, ◌++◌, length, count_by, position, Option, Some, None, Contains, bytes_eq, codes, decimal}
use Rattle.std.specs.List.{slice_get}
use Rattle.hex.specs.Hex.{encode_lower}
use Rattle.epic_num.specs.declared.hop.Body.{Body}
use Rattle.epic_num.specs.Messages.{authenticator_message}
use Rattle.epic_num.specs.Same.{same_body}
use Rattle.epic_app.specs.declared.hop_file.HopCommand.{HopCommand}
use Rattle.epic_app.specs.declared.hop_file.HopCommand.TheVariants.{Issue, Check}
use Rattle.epic_app.specs.declared.hop_answer.HopAnswer.{HopAnswer}
use Rattle.epic_app.specs.declared.hop_answer.HopAnswer.TheVariants.{Issued, Refused, Proved, Forged}
use Rattle.epic_fields.specs.Formulas.{authenticator, link_tag, field0}

abbrev pub is_issue_of : Body → HopCommand → Bool
is_issue_of body (Issue issued) = same_body issued body
is_issue_of body (Check checked field) = false

-- a right field of a body whose first issue has this place among the commands, or that nobody issued
abbrev pub accepted : Body → List ℕ → Option ℕ → HopAnswer
accepted body field (Some place) = Proved (place + 1)
accepted body field None = Forged body field

-- the answer to a command, after the commands before it
abbrev pub answer_of : List ℕ → List HopCommand → HopCommand → HopAnswer
answer_of key earlier (Issue body) = Issued (authenticator key body) (link_tag key body)
answer_of key earlier (Check body field) =
    if bytes_eq field (field0 (authenticator key body)) then accepted body field (position (is_issue_of body) earlier)
    else Refused

abbrev pub answers_after : List ℕ → List HopCommand → List HopCommand → List HopAnswer
answers_after key earlier [] = []
answers_after key earlier (command ∷ more) =
    answer_of key earlier command ∷ answers_after key (earlier ++ command ∷ []) more

-- the answers to all commands, in order
abbrev pub answers : List ℕ → List HopCommand → List HopAnswer
answers key commands = answers_after key [] commands

-- ---- the text

-- texts in a row, grouped to the right
infixr 65 ◌⊕◌
abbrev pub ◌⊕◌ : List ℕ → List ℕ → List ℕ
a ⊕ b = a ++ b

-- the words of an answer, to the end of its line
abbrev pub answer_text : HopAnswer → List ℕ
answer_text (Issued tag link) =
    codes "issue " ⊕ (encode_lower tag ⊕ (codes " " ⊕ (encode_lower link ⊕ codes "\n")))
answer_text Refused = codes "refuse\n"
answer_text (Proved issue) = codes "accept proved " ⊕ (decimal issue ⊕ codes "\n")
answer_text (Forged body field) =
    codes "accept forged "
    ⊕ (encode_lower (authenticator_message body) ⊕ (codes " " ⊕ (encode_lower field ⊕ codes "\n")))

-- a line begins with the number of its command
abbrev pub line_text : ℕ → HopAnswer → List ℕ
line_text number answer = decimal number ⊕ (codes " " ⊕ answer_text answer)

abbrev pub lines_text : ℕ → List HopAnswer → List ℕ
lines_text number [] = []
lines_text number (answer ∷ more) = line_text number answer ++ lines_text (number + 1) more

abbrev pub is_accept : HopAnswer → Bool
is_accept (Issued tag link) = false
is_accept Refused = false
is_accept (Proved issue) = true
is_accept (Forged body field) = true

abbrev pub is_forged : HopAnswer → Bool
is_forged (Issued tag link) = false
is_forged Refused = false
is_forged (Proved issue) = false
is_forged (Forged body field) = true

-- the last line counts the commands, the accepted checks and the forged ones among these
abbrev pub end_text : ℕ → ℕ → ℕ → List ℕ
end_text commands accepted forged =
    codes "end "
    ⊕ (decimal commands ⊕ (codes " accepted " ⊕ (decimal accepted ⊕ (codes " forged " ⊕ (decimal forged ⊕ codes "\n")))))

abbrev pub report_text : List HopAnswer → List ℕ
report_text given =
    lines_text 1 given ++ end_text (length given) (count_by is_accept given) (count_by is_forged given)

-- the report of a file's commands under a key
abbrev pub hop_report : List ℕ → List HopCommand → List ℕ
hop_report key commands = report_text (answers key commands)

-- ---- what an answer claims

-- an authenticator and a link tag are the AS's own over that body; a refused field is wrong; a proved one is right,
-- and the command with that number is an earlier issue of that body; a forged one is right, and no earlier command
-- issued that body
abbrev pub Holds : List ℕ → List HopCommand → HopCommand → HopAnswer → Type 0
Holds key earlier (Issue body) (Issued tag link) = (tag ≡ authenticator key body) × (link ≡ link_tag key body)
Holds key earlier (Check body field) Refused = field ≢ field0 (authenticator key body)
Holds key earlier (Check body field) (Proved issue) =
    (field ≡ field0 (authenticator key body))
    × ((place : ℕ) × (issue ≡ place + 1) × (slice_get earlier place ≡ Some (Issue body)))
Holds key earlier (Check body field) (Forged told tag) =
    (told ≡ body) × (tag ≡ field) × (field ≡ field0 (authenticator key body))
    × ¬ Contains earlier (Issue body)
Holds key earlier command answer = ⊥

-- each command has its answer, which holds
abbrev pub AllHold : List ℕ → List HopCommand → List HopCommand → List HopAnswer → Type 0
AllHold key earlier [] [] = Unit {0}
AllHold key earlier (command ∷ commands) (answer ∷ more) =
    Holds key earlier command answer × AllHold key (earlier ++ command ∷ []) commands more
AllHold key earlier commands given = ⊥
