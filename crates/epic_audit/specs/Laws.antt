-- What the verdicts are worth.
use Rattle.std.specs.Prelude.{◌≡◌, ◌↔◌, ℕ, ◌<◌, true}
use Rattle.epic_num.specs.declared.name.AsId.{AsId}
use Rattle.epic_num.specs.Levels.{is_tagged}
use Rattle.epic_layout.specs.Contents.{Contents, IsPacket, hop_count}
use Rattle.epic_topo.specs.Network.{Network}
use Rattle.epic_fields.specs.HopChecks.{hop_name, has_field, has_link}
use Rattle.epic_fields.specs.PacketTags.{dest_field_of}
use Rattle.epic_ledger.specs.Facts.{Facts}
use Rattle.epic_audit.specs.Clauses.{HopOk, DestOk}
use Rattle.epic_audit.specs.Holds.{Holds, AtHop, AtDest}
use Rattle.epic_audit.specs.Kept.{Kept, ArePackets}
use Rattle.epic_layout.specs.Updates.{own_updates}
use Rattle.epic_audit.specs.Verdicts.{hop_verdict, dest_verdict, IsProved}

-- the router of the AS accepted hop j of the packet under a generation of its key: both tags were right
pub record IsAccepted (t : Network) (a : AsId) (generation : ℕ) (p : Contents) (j : ℕ) : Type 0 where
  pub packet : IsPacket p
  pub within : j < hop_count p
  pub field_right : has_field t (hop_name a generation p j) p j ≡ true
  pub link_right : has_link t (hop_name a generation p j) p j ≡ true

-- the packet was accepted at its destination: at levels 2 and 3 its destination field was right
pub record IsArrived (t : Network) (p : Contents) : Type 0 where
  pub packet : IsPacket p
  pub dest_field_right : is_tagged p.first ≡ true → p.dest_field ≡ dest_field_of t p (own_updates p)

-- the verdict of an accepted hop is Proved exactly where the hop's provenance stands in the ledger, and is always true
abbrev pub HopVerdictsHold : Type 0
HopVerdictsHold =
    (t : Network) (f : Facts) (a : AsId) (generation : ℕ) (p : Contents) (j : ℕ)
    → ArePackets f → Kept t f → IsAccepted t a generation p j
    → (IsProved (hop_verdict t f (hop_name a generation p j) p j) ↔ HopOk f (hop_name a generation p j) p j)
    × Holds t f p (AtHop a generation j) (hop_verdict t f (hop_name a generation p j) p j)

-- the verdict of a packet at its destination is Proved exactly where it is of level 2 or 3 and its provenance stands in the
-- ledger, and is always true
abbrev pub DestVerdictsHold : Type 0
DestVerdictsHold =
    (t : Network) (f : Facts) (p : Contents)
    → ArePackets f → Kept t f → IsArrived t p
    → (IsProved (dest_verdict t f p) ↔ (is_tagged p.first ≡ true) × DestOk f p)
    × Holds t f p AtDest (dest_verdict t f p)
