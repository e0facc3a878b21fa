-- The lines of a verdict file.
use Rattle.std.specs.Prelude.{ℕ, List, [], ◌∷◌, ◌++◌, codes, decimal, flat_map}
use Rattle.epic_num.specs.declared.verdict.Verdict.{Verdict}
use Rattle.epic_layout.specs.Contents.{Contents}
use Rattle.epic_layout.specs.Layout.{parse}
use Rattle.epic_topo.specs.Network.{Network}
use Rattle.epic_audit.specs.Holds.{Subject, AtHop, AtDest}
use Rattle.epic_text.specs.VerdictText.{verdict_words}
use Rattle.epic_record.specs.declared.item.Item.{Item}
use Rattle.epic_record.specs.declared.item.Item.TheVariants.{Event, Emission, AcceptHop, AcceptDest}
use Rattle.epic_record.specs.LedgerText.{words_line}

-- what was accepted: a hop or a packet at its destination, and the packet as it came in
pub record Acceptance : Type 0 where
  pub packet : Contents
  pub subject : Subject

-- the acceptance that a line of the ledger file tells
abbrev pub accepted_by : Item → List Acceptance
accepted_by (Event e) = []
accepted_by (Emission number due bytes) = []
accepted_by (AcceptHop a generation hop bytes) =
    record { packet = parse bytes; subject = AtHop a generation hop } ∷ []
accepted_by (AcceptDest host bytes) = record { packet = parse bytes; subject = AtDest } ∷ []

-- the acceptances of the lines, in order
unfoldable pub acceptances : List Item → List Acceptance
acceptances items = flat_map accepted_by items

-- a hop by its index in the packet, and the verdict
abbrev pub hop_verdict_line : Network → Contents → ℕ → Verdict → List ℕ
hop_verdict_line t p hop verdict = words_line (codes "hop" ∷ decimal hop ∷ verdict_words t p verdict)

-- the destination, and the verdict
abbrev pub dest_verdict_line : Network → Contents → Verdict → List ℕ
dest_verdict_line t p verdict = words_line (codes "dest" ∷ verdict_words t p verdict)

abbrev pub subject_line : Network → Contents → Subject → Verdict → List ℕ
subject_line t p (AtHop a generation hop) verdict = hop_verdict_line t p hop verdict
subject_line t p AtDest verdict = dest_verdict_line t p verdict

unfoldable pub verdict_line : Network → Acceptance → Verdict → List ℕ
verdict_line t a verdict = subject_line t a.packet a.subject verdict

-- one line an acceptance, in order
unfoldable pub verdict_text : Network → List Acceptance → List Verdict → List ℕ
verdict_text t [] verdicts = []
verdict_text t (a ∷ more) [] = []
verdict_text t (a ∷ more) (verdict ∷ verdicts) = verdict_line t a verdict ++ verdict_text t more verdicts
