-- Private: how far the verdict file is judged, and what the next acceptance changes.
use Rattle.std.specs.Prelude.{◌≡◌, ℕ, ◌+◌, ◌<◌, ◌≤◌, ◌||◌, not, Bool, List, [], ◌∷◌, length, Option, Some, None, Result, Ok, Err, if◌then◌else◌, IsTrue, ⊤}
use Rattle.epic_topo.specs.Network.{Network}
use Rattle.epic_ledger.specs.Facts.{Facts}
use Rattle.epic_ledger.specs.History.{History}
use Rattle.epic_text.specs.Lines.{parts}
use Rattle.epic_record.specs.declared.fault.FileKind.{FileKind}
use Rattle.epic_record.specs.declared.fault.LineError.{LineError}
use Rattle.epic_record.specs.declared.fault.LineError.TheVariants as line_error
use Rattle.epic_record.specs.declared.item.Item.{Item}
use Rattle.epic_record.specs.declared.told.Told.{Told}
use Rattle.epic_record.specs.LedgerFile.{Fault, is_placed}
use Rattle.epic_record.specs.VerdictFile.{most_verdicts, told_after, told_in, with_told}
use Rattle.epic_record.specs.VerdictLines.{Acceptance, accepted_by}
use Rattle.epic_judging.specs.declared.judged.JudgeError.{JudgeError}
use Rattle.epic_judging.specs.declared.judged.JudgeError.TheVariants.{Ledger, Verdicts, OutOfMemory}
use Rattle.epic_judging.specs.Judging.{told_true}
use Rattle.epic_judge.specs.Sound.{history_more}

-- what is left of the verdict file, how many of its lines were judged, and the number of the first that isn't true
pub record Reached : Type 0 where
  pub rest : List ℕ
  pub number : ℕ
  pub first : Option ℕ

-- there is room for the numbers of the lines that are left
abbrev pub IsFew : Reached → Type 0
IsFew at = at.number + length at.rest ≤ most_verdicts

-- ---- one line of the verdict file

-- what a line tells of the acceptance and, where it is asked, whether that is true; or the line's fault
abbrev pub IsRead : Network → Facts → Acceptance → Bool → List ℕ → Result Bool LineError → Type 0
IsRead t f a asked line (Ok is_true) =
    (told : Told) × (told_in a.subject line ≡ Ok told) × (is_true ≡ (not asked || told_true t f a.packet a.subject told))
IsRead t f a asked line (Err (line_error.Refused kind)) = told_in a.subject line ≡ Err kind
IsRead t f a asked line (Err line_error.OutOfMemory) = ⊤

-- the number of the first line that isn't true, after one more
abbrev pub first_after : Option ℕ → ℕ → Bool → Option ℕ
first_after (Some first) number holds = Some first
first_after None number holds = if holds then None else Some number

-- what is reached behind a line
abbrev pub behind : Reached → List ℕ → Result Bool LineError → Result Reached JudgeError
behind at rest (Ok is_true) =
    Ok (record { rest = rest; number = at.number + 1; first = first_after at.first (at.number + 1) is_true })
behind at rest (Err (line_error.Refused kind)) = Err (Verdicts (at.number + 1) kind)
behind at rest (Err line_error.OutOfMemory) = Err OutOfMemory

-- ---- one acceptance

-- the next line tells of the acceptance
pub record Judges (t : Network) (f : Facts) (a : Acceptance) (at next : Reached) : Type 0 where
  pub line : Told
  pub told : (more : List Acceptance) → told_after (at.number + 1) (a ∷ more) (parts at.rest) ≡ with_told line (told_after (next.number + 1) more (parts next.rest))
  pub number : next.number ≡ at.number + 1
  pub first : next.first ≡ first_after at.first (at.number + 1) (told_true t f a.packet a.subject line)
  pub shorter : length next.rest < length at.rest

-- a line of the ledger that tells of no acceptance changes nothing
abbrev pub AreJudged : Network → Facts → List Acceptance → Reached → Reached → Type 0
AreJudged t f [] at next = next ≡ at
AreJudged t f (a ∷ more) at next = Judges t f a at next

-- the next line has a fault, or there is none
abbrev pub AreRefused : List Acceptance → Reached → Fault → Type 0
AreRefused [] at fault = ⊥
AreRefused (a ∷ others) at fault = (more : List Acceptance) → told_after (at.number + 1) (a ∷ more) (parts at.rest) ≡ Err fault

abbrev pub IsReached : Network → Facts → List Acceptance → Reached → Result Reached JudgeError → Type 0
IsReached t f accepted at (Ok next) = AreJudged t f accepted at next
IsReached t f accepted at (Err (Ledger line kind)) = ⊥
IsReached t f accepted at (Err (Verdicts line kind)) = AreRefused accepted at (line, kind)
IsReached t f accepted at (Err OutOfMemory) = ⊤

-- ---- one line of the ledger file

-- the line tells something that may follow the ledger
abbrev pub IsPlacedLine : Network → History → Result Item FileKind → Type 0
IsPlacedLine t h (Ok item) = IsTrue (is_placed t h item)
IsPlacedLine t h (Err kind) = ⊥

-- the ledger with what a line tells
abbrev pub line_more : History → Result Item FileKind → History
line_more h (Ok item) = history_more h item
line_more h (Err kind) = h

-- the acceptances that it tells
abbrev pub accepted_in : Result Item FileKind → List Acceptance
accepted_in (Ok item) = accepted_by item
accepted_in (Err kind) = []
