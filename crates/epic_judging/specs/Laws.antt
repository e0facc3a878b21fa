-- That the test of a line decides whether it is true, and that of two files there is one judgment.
use Rattle.std.specs.Prelude.{◌≡◌, ◌≢◌, ℕ, List, map, Result, Ok, Err}
use Rattle.std.specs.Bool.{Decides}
use Rattle.epic_topo.specs.Network.{Network}
use Rattle.epic_ledger.specs.Facts.{Facts}
use Rattle.epic_record.specs.declared.item.Item.{Item}
use Rattle.epic_record.specs.declared.told.Told.{Told}
use Rattle.epic_record.specs.LedgerFile.{ledger_file}
use Rattle.epic_record.specs.VerdictFile.{verdict_file}
use Rattle.epic_record.specs.VerdictLines.{Acceptance, acceptances}
use Rattle.epic_judging.specs.declared.judged.Judged.{Judged}
use Rattle.epic_judging.specs.declared.judged.JudgeError.{JudgeError}
use Rattle.epic_judging.specs.declared.judged.JudgeError.TheVariants.{OutOfMemory}
use Rattle.epic_judging.specs.Judging.{IsTrueOf, told_true}
use Rattle.epic_judging.specs.Judgment.{Claim, claims_in, IsJudgment}

-- over every ledger, whoever wrote it
abbrev pub JudgmentsAreDecided : Type 0
JudgmentsAreDecided =
    (t : Network) (f : Facts) (a : Acceptance) (line : Told)
    → Decides (told_true t f a.packet a.subject line) (IsTrueOf t f a line)

-- want of memory aside, there is a judgment
pub record HasJudgment (t : Network) (ledger verdicts : List ℕ) : Type 0 where
  pub answer : Result Judged JudgeError
  pub is_judgment : IsJudgment t ledger verdicts answer
  pub answers : answer ≢ Err OutOfMemory

abbrev pub JudgmentsExist : Type 0
JudgmentsExist = (t : Network) (ledger verdicts : List ℕ) → HasJudgment t ledger verdicts

-- and only one: yes, no and the faults exclude one another
abbrev pub JudgmentsAreOne : Type 0
JudgmentsAreOne =
    (t : Network) (ledger verdicts : List ℕ) (answer other : Result Judged JudgeError)
    → IsJudgment t ledger verdicts answer → IsJudgment t ledger verdicts other
    → answer ≢ Err OutOfMemory → other ≢ Err OutOfMemory
    → answer ≡ other

-- one claim an acceptance: no acceptance of the ledger file is left out
abbrev pub EachIsClaimed : Type 0
EachIsClaimed =
    (t : Network) (ledger verdicts : List ℕ) (items : List Item) (lines : List Told)
    → ledger_file t ledger ≡ Ok items → verdict_file (acceptances items) verdicts ≡ Ok lines
    → (all : List Claim) × (claims_in t ledger verdicts ≡ Ok all) × (map (λ c. c.acceptance) all ≡ acceptances items) × (map (λ c. c.line) all ≡ lines)
