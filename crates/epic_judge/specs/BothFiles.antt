-- Private: how far both files are judged.
use Rattle.std.specs.Prelude.{◌≡◌, ℕ, ◌+◌, nat_lt, List, [], ◌∷◌, ◌++◌, length, true, Option, Some, None, Result, Ok, Err, if◌then◌else◌, ⊤}
use Rattle.epic_topo.specs.Network.{Network}
use Rattle.epic_ledger.specs.Facts.{Facts}
use Rattle.epic_text.specs.Lines.{parts}
use Rattle.epic_index.specs.Indexes.{Indexed}
use Rattle.epic_record.specs.declared.fault.FileKind.TheVariants.{Extra}
use Rattle.epic_record.specs.declared.item.Item.{Item}
use Rattle.epic_record.specs.declared.told.Told.{Told}
use Rattle.epic_record.specs.LedgerFile.{Fault, history_in, is_placed}
use Rattle.epic_record.specs.LedgerLine.{item_of}
use Rattle.epic_record.specs.VerdictFile.{told_after}
use Rattle.epic_record.specs.VerdictLines.{Acceptance, acceptances}
use Rattle.epic_judging.specs.declared.judged.Judged.{Judged}
use Rattle.epic_judging.specs.declared.judged.Judged.TheVariants.{Yes, No}
use Rattle.epic_judging.specs.declared.judged.JudgeError.{JudgeError}
use Rattle.epic_judging.specs.declared.judged.JudgeError.TheVariants.{Ledger, Verdicts, OutOfMemory}
use Rattle.epic_judging.specs.Judgment.{Claim, accepted_after, claims, claims_in, AllTrue, FirstFalse}
use Rattle.epic_judge.specs.Reaching.{Reached, IsFew}
use Rattle.epic_judge.specs.Sound.{IsSound}

-- the ledger file has no fault
abbrev pub HasItems : Result (List Item) Fault → Type 0
HasItems told = (items : List Item) × (told ≡ Ok items)

-- whether it has one
abbrev pub IsChecked : Result (List Item) Fault → Result ⊤ JudgeError → Type 0
IsChecked told (Ok done) = HasItems told
IsChecked told (Err (Ledger line kind)) = told ≡ Err (line, kind)
IsChecked told (Err (Verdicts line kind)) = ⊥
IsChecked told (Err OutOfMemory) = ⊤

-- what is said of so many lines, by the number of the first that isn't true
abbrev pub said : ℕ → Option ℕ → Judged
said number None = Yes number
said number (Some first) = No number first

-- what is said at the end of the ledger file, where no line of the verdict file may be left
abbrev pub answered : Reached → Result Judged JudgeError
answered at =
    if nat_lt 0 (length at.rest) then Err (Verdicts (at.number + 1) Extra) else Ok (said at.number at.first)

-- the lines tell these items, each of which may follow those before it
abbrev pub AreItems : Network → List Item → List (List ℕ) → List Item → Type 0
AreItems t before [] [] = ⊤
AreItems t before [] (item ∷ more) = ⊥
AreItems t before (line ∷ lines) [] = ⊥
AreItems t before (line ∷ lines) (item ∷ more) =
    (item_of line ≡ Ok item) × (is_placed t (history_in before) item ≡ true) × AreItems t (before ++ item ∷ []) lines more

-- the claims that were judged, and those that the lines that are left make
abbrev pub claims_after : List Claim → List (Facts × Acceptance) → Result (List Told) Fault → Result (List Claim) JudgeError
claims_after judged rows (Ok lines) = Ok (judged ++ claims rows lines)
claims_after judged rows (Err fault) = Err (Verdicts fault.0 fault.1)

-- the number of the first that is false, if one is
abbrev pub IsFirst : Network → List Claim → Option ℕ → Type 0
IsFirst t judged None = AllTrue t judged
IsFirst t judged (Some number) = FirstFalse t judged number

-- the ledger file is judged up to what is left of it, over an index of the lines before
pub record Judging (t : Network) (ledger verdicts rest : List ℕ) (at : Reached) (x : Indexed) : Type 0 where
  pub before : List Item
  pub more : List Item
  pub judged : List Claim
  pub told : claims_in t ledger verdicts ≡ claims_after judged (accepted_after before more) (told_after (at.number + 1) (acceptances more) (parts at.rest))
  pub left : AreItems t before (parts rest) more
  pub network : x.network ≡ t
  pub history : x.history ≡ history_in before
  pub sound : IsSound t (history_in before)
  pub count : at.number ≡ length judged
  pub first : IsFirst t judged at.first
  pub few : IsFew at
