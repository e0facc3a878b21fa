-- The verdict file of a run is read as what its verdicts are told as.
use Rattle.std.specs.Prelude.{◌≡◌, ◌<◌, ◌≤◌, ◌^◌, List, [], ◌∷◌, length, Ok, ⊤}
use Rattle.epic_num.specs.declared.verdict.Verdict.{Verdict}
use Rattle.epic_topo.specs.Network.{Network}
use Rattle.epic_audit.specs.Holds.{Subject, AtDest, AtHop}
use Rattle.epic_record.specs.declared.told.Told.{Told}
use Rattle.epic_record.specs.VerdictFile.{most_verdicts, verdict_file}
use Rattle.epic_record.specs.VerdictLines.{Acceptance, verdict_text}
use Rattle.epic_judging.specs.Telling.{told_of}
use Rattle.epic_reread.specs.Rereading.{CanBeTold}

-- what the verdicts are told as, one an acceptance
unfoldable pub told_each : Network → List Acceptance → List Verdict → List Told
told_each t [] verdicts = []
told_each t (a ∷ more) [] = []
told_each t (a ∷ more) (verdict ∷ verdicts) = told_of t a.packet verdict ∷ told_each t more verdicts

-- a hop has an index of one byte
abbrev pub IsIndexed : Subject → Type 0
IsIndexed (AtHop a generation hop) = hop < 2 ^ 8
IsIndexed AtDest = ⊤

-- each acceptance has its verdict, which can be told
abbrev pub EachCanBeTold : Network → List Acceptance → List Verdict → Type 0
EachCanBeTold t [] [] = ⊤
EachCanBeTold t [] (verdict ∷ verdicts) = ⊥
EachCanBeTold t (a ∷ more) [] = ⊥
EachCanBeTold t (a ∷ more) (verdict ∷ verdicts) =
    IsIndexed a.subject × CanBeTold (told_of t a.packet verdict) × EachCanBeTold t more verdicts

-- ---- the law

abbrev pub VerdictFilesAreReadBack : Type 0
VerdictFilesAreReadBack =
    (t : Network) (accepted : List Acceptance) (verdicts : List Verdict)
    → EachCanBeTold t accepted verdicts
    → length (verdict_text t accepted verdicts) ≤ most_verdicts
    → verdict_file accepted (verdict_text t accepted verdicts) ≡ Ok (told_each t accepted verdicts)
