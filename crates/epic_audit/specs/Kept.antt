-- What every ledger of a world keeps, over the keys and links of its topology. The verdicts rest on it.
use Rattle.std.specs.Prelude.{◌≡◌, ℕ, ◌<◌, true, List, All, Some, slice_get}
use Rattle.epic_num.specs.declared.hop.HopName.{HopName}
use Rattle.epic_num.specs.Chains.{Issue, is_ended}
use Rattle.epic_num.specs.Levels.{is_tagged}
use Rattle.epic_layout.specs.Contents.{IsPacket, field, hop_count}
use Rattle.epic_layout.specs.Route.{place, is_first, is_last, ingress, egress, body}
use Rattle.epic_topo.specs.Network.{Network, has}
use Rattle.epic_fields.specs.Issues.{IssuesKept}
use Rattle.epic_fields.specs.HopChecks.{has_link}
use Rattle.epic_fields.specs.PacketTags.{field_of, dest_field_of}
use Rattle.epic_ledger.specs.Facts.{Facts, Sent, Pass, Reveal, pass_name, sent_name}
use Rattle.epic_audit.specs.Made.{sent_updates}

-- ---- accepted hops

-- The hop is one of its packet, at an AS of the topology. The next hop of its segment in construction order carries its link
-- tag; at the segment's ends in travel order it has no interface.
pub record IsKeptPass (t : Network) (w : Pass) : Type 0 where
  pub known : has t w.asn ≡ true
  pub within : w.hop < hop_count w.packet
  pub linked : has_link t (pass_name w) w.packet w.hop ≡ true
  pub no_ingress : is_first (place w.packet.route.segments w.hop) ≡ true → ingress w.packet.route w.hop ≡ 0
  pub no_egress : is_last (place w.packet.route.segments w.hop) ≡ true → egress w.packet.route w.hop ≡ 0

abbrev pub PassesKept : Network → List Pass → Type 0
PassesKept t passes = (n : ℕ) (w : Pass) → slice_get passes n ≡ Some w → IsKeptPass t w

-- ---- sent packets

-- the packet has at hop j the body of the issue that stands there, and the field that the source makes for it
pub record IsKeptHop (t : Network) (issues : List Issue) (s : Sent) (j : ℕ) : Type 0 where
  pub name : HopName
  pub named : sent_name issues s j ≡ Some name
  pub body_is : name.body ≡ body s.packet.route j
  pub field_is : field s.packet j ≡ field_of t name s.packet j

-- it was sent over ended issues, its hops are theirs, and its destination field is the one that the source makes
pub record IsKeptSend (t : Network) (issues : List Issue) (s : Sent) : Type 0 where
  pub ended : All (λ number. is_ended issues number ≡ true) s.segments
  pub hops : (j : ℕ) → j < hop_count s.packet → IsKeptHop t issues s j
  pub dest_field_is : is_tagged s.packet.first ≡ true → s.packet.dest_field ≡ dest_field_of t s.packet (sent_updates t issues s)

-- no source sends two packets with one timestamp
abbrev pub AreApart : List Sent → Type 0
AreApart sends =
    (m n : ℕ) (r s : Sent) → slice_get sends m ≡ Some r → slice_get sends n ≡ Some s
    → r.packet.src ≡ s.packet.src → r.packet.ts ≡ s.packet.ts → m ≡ n

pub record SendsKept (t : Network) (issues : List Issue) (sends : List Sent) : Type 0 where
  pub each : (n : ℕ) (s : Sent) → slice_get sends n ≡ Some s → IsKeptSend t issues s
  pub apart : AreApart sends

-- ---- reveals

-- no holder is revealed twice
abbrev pub RevealsKept : List Reveal → Type 0
RevealsKept reveals =
    (m n : ℕ) (r s : Reveal) → slice_get reveals m ≡ Some r → slice_get reveals n ≡ Some s → r.holder ≡ s.holder → m ≡ n

-- ---- all

pub record Kept (t : Network) (f : Facts) : Type 0 where
  pub issues : IssuesKept t f.issues
  pub passes : PassesKept t f.passes
  pub sends : SendsKept t f.issues f.sends
  pub reveals : RevealsKept f.reveals

-- the packets that the events speak of are within the layout's limits, as every ledger ensures of its emissions
pub record ArePackets (f : Facts) : Type 0 where
  pub sent : (n : ℕ) (s : Sent) → slice_get f.sends n ≡ Some s → IsPacket s.packet
  pub passed : (n : ℕ) (w : Pass) → slice_get f.passes n ≡ Some w → IsPacket w.packet
