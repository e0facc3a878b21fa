-- The judge says yes of a run's files.
use Rattle.std.specs.Prelude.{◌≡◌, ℕ, ◌≤◌, List, [], ◌∷◌, length, Ok, ⊤}
use Rattle.epic_num.specs.declared.verdict.Verdict.{Verdict}
use Rattle.epic_topo.specs.Network.{Network}
use Rattle.epic_ledger.specs.Facts.{Facts}
use Rattle.epic_audit.specs.Holds.{Holds}
use Rattle.epic_record.specs.declared.item.Item.{Item}
use Rattle.epic_record.specs.LedgerFile.{ledger_file}
use Rattle.epic_record.specs.VerdictFile.{most_verdicts}
use Rattle.epic_record.specs.VerdictLines.{Acceptance, acceptances, verdict_text}
use Rattle.epic_judging.specs.declared.judged.Judged.TheVariants.{Yes}
use Rattle.epic_judging.specs.Judgment.{IsJudgment, accepted_after}
use Rattle.epic_judging.specs.Telling.{told_of}
use Rattle.epic_reread.specs.Rereading.{CanBeTold}
use Rattle.epic_reread.specs.WholeFile.{IsIndexed}

-- the verdict holds of what was accepted, over what the lines before it tell, and can be told
pub record IsGivenOf (t : Network) (f : Facts) (a : Acceptance) (verdict : Verdict) : Type 0 where
  pub holds : Holds t f a.packet a.subject verdict
  pub indexed : IsIndexed a.subject
  pub can_be_told : CanBeTold (told_of t a.packet verdict)

-- each acceptance has such a verdict
abbrev pub AreGivenOf : Network → List (Facts × Acceptance) → List Verdict → Type 0
AreGivenOf t [] [] = ⊤
AreGivenOf t [] (verdict ∷ verdicts) = ⊥
AreGivenOf t (a ∷ more) [] = ⊥
AreGivenOf t (a ∷ more) (verdict ∷ verdicts) = IsGivenOf t a.0 a.1 verdict × AreGivenOf t more verdicts

-- ---- the law

-- whatever the ledger file is, which the items stand in
abbrev pub GivenVerdictsAreJudgedTrue : Type 0
GivenVerdictsAreJudgedTrue =
    (t : Network) (ledger : List ℕ) (items : List Item) (verdicts : List Verdict)
    → ledger_file t ledger ≡ Ok items
    → AreGivenOf t (accepted_after [] items) verdicts
    → length (verdict_text t (acceptances items) verdicts) ≤ most_verdicts
    → IsJudgment t ledger (verdict_text t (acceptances items) verdicts) (Ok (Yes (length verdicts)))
