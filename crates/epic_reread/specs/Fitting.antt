-- The verdicts of a run can be told.
use Rattle.std.specs.Prelude.{◌<◌, ◌^◌, All, IsTrue, length, ⊤}
use Rattle.epic_num.specs.declared.hop.HopName.{HopName}
use Rattle.epic_num.specs.declared.key_name.KeyName.{KeyName}
use Rattle.epic_num.specs.declared.key_name.KeyName.TheVariants as keys
use Rattle.epic_num.specs.declared.verdict.Verdict.{Verdict}
use Rattle.epic_num.specs.declared.verdict.Verdict.TheVariants.{Proved, Unclaimed, Opened, Forged, Collided}
use Rattle.epic_num.specs.Bodies.{IsBody}
use Rattle.epic_num.specs.Messages.{IsHost}
use Rattle.epic_layout.specs.Contents.{Contents, HoldsBytes, IsBytes, IsPacket, hop_count}
use Rattle.epic_topo.specs.Lawful.{IsTopology}
use Rattle.epic_topo.specs.Network.{Network, has}
use Rattle.epic_ledger.specs.Facts.{Facts, pass_name}
use Rattle.epic_audit.specs.Kept.{ArePackets, Kept}
use Rattle.epic_audit.specs.Holds.{Holds, Subject, AtDest, AtHop}
use Rattle.epic_text.specs.VerdictText.{IsTellable}
use Rattle.epic_judging.specs.Telling.{told_of}
use Rattle.epic_reread.specs.Rereading.{CanBeTold}

-- ---- the parts of a verdict fit their types

abbrev pub KeyFits : KeyName → Type 0
KeyFits (keys.Fwd a g) = g < 2 ^ 32
KeyFits (keys.Field a src epoch) = IsHost src × (epoch < 2 ^ 64)
KeyFits (keys.Dest dst src epoch) = IsHost dst × IsHost src × (epoch < 2 ^ 64)

pub record HopFits (x : HopName) : Type 0 where
  pub generation : x.generation < 2 ^ 32
  pub body : IsBody x.body
  pub link : IsBytes x.body.link

unfoldable pub Fits : Verdict → Type 0
Fits (Proved issue send) = (issue < 2 ^ 32) × (send < 2 ^ 32)
Fits Unclaimed = ⊤
Fits (Opened step) = step < 2 ^ 32
Fits (Forged r) = KeyFits r.key
Fits (Collided c) = HopFits c.left × HopFits c.right

-- the hop that the ledger has in place of the packet's is one of the topology's; `IsTellable` asks it of the packet's
abbrev pub OtherIsThere : Network → Verdict → Type 0
OtherIsThere t (Collided c) = IsTrue (has t c.right.asn)
OtherIsThere t verdict = ⊤

-- a verdict that is told of a packet
pub record IsOfRun (t : Network) (p : Contents) (verdict : Verdict) : Type 0 where
  pub topology : IsTopology t
  pub packet : IsPacket p
  pub bytes : HoldsBytes p
  pub tellable : IsTellable t p verdict
  pub fits : Fits verdict
  pub other_there : OtherIsThere t verdict

-- ---- the law

abbrev pub VerdictsCanBeTold : Type 0
VerdictsCanBeTold = (t : Network) (p : Contents) (verdict : Verdict) → IsOfRun t p verdict → CanBeTold (told_of t p verdict)

-- ---- verdicts that hold

-- the parts of a ledger fit their types
pub record LedgerFits (f : Facts) : Type 0 where
  pub few_issues : length f.issues < 2 ^ 32
  pub issues : All (λ i. HopFits i.name) f.issues
  pub sends : All (λ s. s.emission < 2 ^ 32) f.sends
  pub passes : All (λ w. HopFits (pass_name w)) f.passes
  pub reveals : All (λ r. r.step < 2 ^ 32) f.reveals

-- the subject is one of the packet
abbrev pub IsSubjectOf : Contents → Subject → Type 0
IsSubjectOf p (AtHop a generation hop) = (generation < 2 ^ 32) × (hop < hop_count p)
IsSubjectOf p AtDest = ⊤

-- whoever gave the verdict
abbrev pub HeldVerdictsFit : Type 0
HeldVerdictsFit =
    (t : Network) (f : Facts) (p : Contents) (subject : Subject) (verdict : Verdict)
    → IsTopology t → IsPacket p → HoldsBytes p → LedgerFits f → IsSubjectOf p subject
    → Holds t f p subject verdict
    → Fits verdict

-- where every pass and every issue of the ledger was one of the topology's, as in each ledger of a world
abbrev pub OtherHopsAreThere : Type 0
OtherHopsAreThere =
    (t : Network) (f : Facts) (p : Contents) (subject : Subject) (verdict : Verdict)
    → Kept t f → ArePackets f → IsPacket p → IsSubjectOf p subject
    → IsTellable t p verdict
    → Holds t f p subject verdict
    → OtherIsThere t verdict
