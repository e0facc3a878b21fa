-- What the code reads of an event, as a fact.
use Rattle.std.specs.Prelude.{ℕ, ◌-◌, nat_lt, if◌then◌else◌, List, Option, Some, None}
use Rattle.epic_num.specs.Chains.{Issue}
use Rattle.epic_layout.specs.Contents.{Contents, hop_count}
use Rattle.epic_layout.specs.Route.{place, position}
use Rattle.epic_ledger.specs.History.{Emission}
use Rattle.epic_ledger.specs.Facts.{Sent, Pass, Reveal, packet_at, sent_issue}
use Rattle.epic_ledger.specs.declared.passes.Passing.{Passing}
use Rattle.epic_ledger.specs.declared.reveals.Revealing.{Revealing}
use Rattle.epic_ledger.specs.declared.sends.Sending.{Sending}
use Rattle.epic_ledger.specs.declared.spot.Spot.{Spot}

-- a send, with what its emission says
unfoldable pub sent_with : List Emission → Sending → Sent
sent_with emissions s = record { emission = s.emission; segments = s.segments.now; packet = packet_at emissions s.emission }

-- a pass, with what its emission says
unfoldable pub pass_with : List Emission → Passing → Pass
pass_with emissions w = record {
  asn = w.asn;
  generation = w.generation;
  hop = w.hop;
  emission = w.emission;
  packet = packet_at emissions w.emission;
}

unfoldable pub reveal_in : Revealing → Reveal
reveal_in r = record { step = r.step; holder = r.holder }

-- the segment that hop j of a packet stands in, and how many hops of it come after hop j in construction order
unfoldable pub spot : Contents → ℕ → Option Spot
spot p j =
    let at = place p.route.segments j
    in if nat_lt j (hop_count p) then Some (record { segment = at.segment; after = at.head.count - position at }) else None

-- the number of the issue that a sent packet has at hop j, where it has the hop
unfoldable pub issue_of_hop : List Issue → Sent → ℕ → Option ℕ
issue_of_hop issues s j = if nat_lt j (hop_count s.packet) then Some (sent_issue issues s j) else None
