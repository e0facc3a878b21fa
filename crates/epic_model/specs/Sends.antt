-- The hops of a packet that was sent, by the issues of its segments.
use Rattle.std.specs.Prelude.{◌≡◌, ℕ, ◌+◌, ◌-◌, ◌<◌, true, false, List, [], ◌∷◌, map, length, Some, IsSome, IsTrue, unwrap_or}
use Rattle.epic_num.specs.declared.hop.HopName.{HopName}
use Rattle.epic_num.specs.declared.name.HostId.{HostId}
use Rattle.epic_num.specs.declared.segment.Leg.{Leg}
use Rattle.epic_num.specs.Paths.{is_lawful, path_start, path_end}
use Rattle.epic_num.specs.Chains.{Issue, chain, is_ended, no_name}
use Rattle.epic_layout.specs.Contents.{Contents, IsPacket, hop_count}
use Rattle.epic_layout.specs.Route.{place, is_first, is_last}
use Rattle.epic_topo.specs.Lawful.{LinksLeadBack}
use Rattle.epic_topo.specs.Network.{Network}
use Rattle.epic_fields.specs.Issues.{IssuesKept}
use Rattle.epic_ends.specs.Sending.{made_packet}
use Rattle.epic_ends.specs.Ways.{IsRoad, IsMade}
use Rattle.epic_ledger.specs.History.{History}
use Rattle.epic_ledger.specs.Facts.{Sent, facts_of, issues_in, sends_in, sent_name}
use Rattle.epic_ledger.specs.Queries.{issue_of}
use Rattle.epic_audit.specs.Clauses.{GoesOnFrom, higher, lower, sent_as}
use Rattle.epic_audit.specs.Kept.{IsKeptSend}
use Rattle.epic_audit.specs.Verdicts.{source_of}
use Rattle.epic_beacon.specs.Segments.{name_of_hop}

-- the names of a sent packet's hops
unfoldable pub names_of : List Issue → Sent → ℕ → HopName
names_of issues s j = unwrap_or (sent_name issues s j) no_name

-- A sent packet is at its first hop. Its way begins at its source's AS, ends at its destination's, and goes from one segment to the
-- next within an AS.
pub record IsRouted (issues : List Issue) (s : Sent) : Type 0 where
  pub begins : s.packet.current ≡ 0
  pub starts : (names_of issues s 0).asn ≡ s.packet.src.asn
  pub ends : (j : ℕ) → j + 1 ≡ hop_count s.packet → (names_of issues s j).asn ≡ s.packet.dst.asn
  pub switches : (j : ℕ) → j + 1 < hop_count s.packet → is_last (place s.packet.route.segments j) ≡ true
      → (names_of issues s (j + 1)).asn ≡ (names_of issues s j).asn

-- what the ledger says of a packet that was sent: its hops were issued, of two neighbours in a segment one from the other, and it is
-- the first such packet of its source
pub record IsOnRecord (h : History) (p : Contents) (x : ℕ → HopName) : Type 0 where
  pub send : Sent
  pub packet_is : send.packet ≡ p
  pub named : (j : ℕ) → j < hop_count p → sent_name (issues_in h.events) send j ≡ Some (x j)
  pub first_as : sent_as (sends_in h) p ≡ Some send
  pub issued : (j : ℕ) → j < hop_count p → IsSome (issue_of (issues_in h.events) (x j))
  pub sourced : (j : ℕ) → j < hop_count p → IsSome (source_of (facts_of h) (x j) p j)
  pub chained : (j : ℕ) → j < hop_count p → is_first (place p.route.segments j) ≡ false
      → GoesOnFrom (issues_in h.events) (higher (x (j - 1)) (x j)) (lower (x (j - 1)) (x j))

-- A packet that was sent over issues that are kept has a road, and its fields and its destination field are those of the formulas.
abbrev pub SentPacketsHaveRoads : Type 0
SentPacketsHaveRoads =
    (t : Network) (issues : List Issue) (s : Sent)
    → LinksLeadBack t → IssuesKept t issues → IsPacket s.packet
    → length s.segments ≡ length s.packet.route.segments
    → IsKeptSend t issues s → IsRouted issues s
    → IsRoad t s.packet (names_of issues s) × IsMade t s.packet (names_of issues s)

-- ---- paths over issues

-- the leg's hops are those of the chain of an ended issue
pub record IsOver (issues : List Issue) (number : ℕ) (leg : Leg) : Type 0 where
  pub ended : is_ended issues number ≡ true
  pub names : map name_of_hop leg.segment.hops.items ≡ chain issues number

abbrev pub AreOver : List Issue → List ℕ → List Leg → Type 0
AreOver issues [] [] = Unit {0}
AreOver issues (number ∷ numbers) (leg ∷ legs) = IsOver issues number leg × AreOver issues numbers legs
AreOver issues [] (leg ∷ legs) = ⊥
AreOver issues (number ∷ numbers) [] = ⊥

-- a packet that is sent over a lawful path of ended issues, from its source's AS to its destination's, is kept and has a way
abbrev pub SendsAreKept : Type 0
SendsAreKept =
    (t : Network) (issues : List Issue) (emission first : ℕ) (src dst : HostId) (ts : ℕ) (numbers : List ℕ) (legs : List Leg) (payload : List ℕ)
    → IssuesKept t issues → AreOver issues numbers legs → IsTrue (is_lawful legs)
    → path_start legs ≡ src.asn → path_end legs ≡ dst.asn
    → (let s : Sent = record { emission = emission; segments = numbers; packet = made_packet t legs first src dst ts payload } in
    IsKeptSend t issues s × IsRouted issues s)
