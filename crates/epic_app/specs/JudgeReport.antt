-- The report of `judge`: what it says of a ledger file and a verdict file over a topology.
use Rattle.std.specs.Prelude.{ℕ, ◌+◌, not, Bool, true, false, List, length, position, Option, Some, None, Result, Ok, Err, codes, decimal}
use Rattle.epic_topo.specs.Network.{Network}
use Rattle.epic_judging.specs.declared.judged.Judged.{Judged}
use Rattle.epic_judging.specs.declared.judged.Judged.TheVariants.{Yes, No}
use Rattle.epic_judging.specs.declared.judged.JudgeError.{JudgeError}
use Rattle.epic_judging.specs.Judging.{told_true}
use Rattle.epic_judging.specs.Judgment.{Claim, claims_in}
use Rattle.epic_app.specs.HopReport.{◌⊕◌}

-- a verdict line is true of its acceptance, over what the lines before it tell
unfoldable pub is_true : Network → Claim → Bool
is_true t c = told_true t c.facts c.acceptance.packet c.acceptance.subject c.line

-- so many verdicts, of which the first that isn't true has this place
abbrev pub said : ℕ → Option ℕ → Judged
said verdicts None = Yes verdicts
said verdicts (Some place) = No verdicts (place + 1)

abbrev pub said_of : Network → Result (List Claim) JudgeError → Result Judged JudgeError
said_of t (Err fault) = Err fault
said_of t (Ok all) = Ok (said (length all) (position (λ c. not (is_true t c)) all))

-- what is said of the two files, or their first fault
unfoldable pub judgment : Network → List ℕ → List ℕ → Result Judged JudgeError
judgment t ledger verdicts = said_of t (claims_in t ledger verdicts)

-- ---- the text

abbrev pub judged_text : Judged → List ℕ
judged_text (Yes verdicts) = codes "judged " ⊕ (decimal verdicts ⊕ codes " yes\n")
judged_text (No verdicts first) =
    codes "judged " ⊕ (decimal verdicts ⊕ (codes " no " ⊕ (decimal first ⊕ codes "\n")))

-- some verdict isn't true
abbrev pub is_no : Judged → Bool
is_no (Yes verdicts) = false
is_no (No verdicts first) = true
