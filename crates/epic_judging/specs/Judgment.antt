-- What a ledger file and a verdict file tell together, and what the judge says of them.
use Rattle.std.specs.Prelude.{◌≡◌, ℕ, suc, ◌<◌, List, [], ◌∷◌, ◌++◌, length, map, slice_get, Some, Result, Ok, Err, ⊤}
use Rattle.epic_topo.specs.Network.{Network}
use Rattle.epic_ledger.specs.Facts.{Facts, facts_of}
use Rattle.epic_record.specs.declared.item.Item.{Item}
use Rattle.epic_record.specs.declared.told.Told.{Told}
use Rattle.epic_record.specs.LedgerFile.{Fault, history_in, ledger_file}
use Rattle.epic_record.specs.VerdictFile.{verdict_file}
use Rattle.epic_record.specs.VerdictLines.{Acceptance, accepted_by, acceptances}
use Rattle.epic_judging.specs.declared.judged.Judged.{Judged}
use Rattle.epic_judging.specs.declared.judged.Judged.TheVariants.{Yes, No}
use Rattle.epic_judging.specs.declared.judged.JudgeError.{JudgeError}
use Rattle.epic_judging.specs.declared.judged.JudgeError.TheVariants.{Ledger, Verdicts, OutOfMemory}
use Rattle.epic_judging.specs.Judging.{IsTrueOf}

-- ---- what the files tell

-- an acceptance, what the lines before it tell, and what its verdict line tells
pub record Claim : Type 0 where
  pub facts : Facts
  pub acceptance : Acceptance
  pub line : Told

-- the acceptances of lines after others, each with what the lines before it tell
abbrev pub accepted_after : List Item → List Item → List (Facts × Acceptance)
accepted_after before [] = []
accepted_after before (item ∷ more) =
    map (λ a. (facts_of (history_in before), a)) (accepted_by item) ++ accepted_after (before ++ item ∷ []) more

-- each acceptance with its verdict line
abbrev pub claims : List (Facts × Acceptance) → List Told → List Claim
claims (a ∷ more) (line ∷ lines) = record { facts = a.0; acceptance = a.1; line = line } ∷ claims more lines
claims accepted lines = []

abbrev pub with_verdicts : List Item → Result (List Told) Fault → Result (List Claim) JudgeError
with_verdicts items (Err fault) = Err (Verdicts fault.0 fault.1)
with_verdicts items (Ok lines) = Ok (claims (accepted_after [] items) lines)

abbrev pub with_ledger : List ℕ → Result (List Item) Fault → Result (List Claim) JudgeError
with_ledger verdicts (Err fault) = Err (Ledger fault.0 fault.1)
with_ledger verdicts (Ok items) = with_verdicts items (verdict_file (acceptances items) verdicts)

-- what both files tell, or their first fault: that of the ledger before that of the verdicts
unfoldable pub claims_in : Network → List ℕ → List ℕ → Result (List Claim) JudgeError
claims_in t ledger verdicts = with_ledger verdicts (ledger_file t ledger)

-- ---- what the judge says

abbrev pub IsTrueClaim : Network → Claim → Type 0
IsTrueClaim t c = IsTrueOf t c.facts c.acceptance c.line

-- the first so many claims are true
abbrev pub TrueBefore : Network → List Claim → ℕ → Type 0
TrueBefore t all index = (n : ℕ) (c : Claim) → n < index → slice_get all n ≡ Some c → IsTrueClaim t c

-- every claim is
abbrev pub AllTrue : Network → List Claim → Type 0
AllTrue t all = TrueBefore t all (length all)

-- the claim of this number, from 1, is not true, and those before it are
pub record FirstFalse (t : Network) (all : List Claim) (number : ℕ) : Type 0 where
  pub index : ℕ
  pub claim : Claim
  pub number_is : number ≡ suc index
  pub there : slice_get all index ≡ Some claim
  pub is_false : IsTrueClaim t claim → ⊥
  pub before : TrueBefore t all index

-- what the judge may say of claims
abbrev pub IsSaid : Network → List Claim → Judged → Type 0
IsSaid t all (Yes verdicts) = (verdicts ≡ length all) × AllTrue t all
IsSaid t all (No verdicts first) = (verdicts ≡ length all) × FirstFalse t all first

-- what the judge may answer, of what both files tell; out of memory it may say nothing
abbrev pub IsAnswer : Network → Result (List Claim) JudgeError → Result Judged JudgeError → Type 0
IsAnswer t told (Err OutOfMemory) = ⊤
IsAnswer t told (Err (Ledger line kind)) = told ≡ Err (Ledger line kind)
IsAnswer t told (Err (Verdicts line kind)) = told ≡ Err (Verdicts line kind)
IsAnswer t (Err fault) (Ok judged) = ⊥
IsAnswer t (Ok all) (Ok judged) = IsSaid t all judged

-- the judge may answer so of a ledger file and a verdict file
abbrev pub IsJudgment : Network → List ℕ → List ℕ → Result Judged JudgeError → Type 0
IsJudgment t ledger verdicts answer = IsAnswer t (claims_in t ledger verdicts) answer
