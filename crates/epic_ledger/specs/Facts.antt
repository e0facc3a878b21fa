-- What the events of a ledger say: the hops that were issued, the packets that were sent, the hops that routers accepted, and
-- the holders that were revealed, each in order. Packets stand here as what their bytes say.
use Rattle.std.specs.Prelude.{ℕ, ◌-◌, nat_lt, if◌then◌else◌, List, [], filter_map, slice_index_or, Option, Some, None}
use Rattle.std.specs.Option.{option_map_or}
use Rattle.epic_num.specs.Chains.{Issue, name_of, ancestor}
use Rattle.epic_num.specs.declared.hop.HopName.{HopName}
use Rattle.epic_num.specs.declared.key_name.Holder.{Holder}
use Rattle.epic_num.specs.declared.name.AsId.{AsId}
use Rattle.epic_layout.specs.Contents.{Contents, hop_count}
use Rattle.epic_layout.specs.Layout.{parse}
use Rattle.epic_layout.specs.Route.{place, position, body}
use Rattle.epic_ledger.specs.History.{History, Emission, emission_at}
use Rattle.epic_ledger.specs.declared.event.Event.{Event}
use Rattle.epic_ledger.specs.declared.event.Event.TheVariants as event

-- a packet that a source sent over the segments whose last issues have these numbers
pub record Sent : Type 0 where
  pub emission : ℕ
  pub segments : List ℕ
  pub packet : Contents

-- a hop that the router of an AS accepted, and the packet as it left
pub record Pass : Type 0 where
  pub asn : AsId
  pub generation : ℕ
  pub hop : ℕ
  pub emission : ℕ
  pub packet : Contents

-- a holder whose keys became known to all
pub record Reveal : Type 0 where
  pub step : ℕ
  pub holder : Holder

pub record Facts : Type 0 where
  pub issues : List Issue
  pub sends : List Sent
  pub passes : List Pass
  pub reveals : List Reveal

-- what the bytes of an emission say
unfoldable pub packet_at : List Emission → ℕ → Contents
packet_at emissions number = parse (option_map_or (λ e. e.bytes) (emission_at emissions number) [])

unfoldable pub as_issue : Event → Option Issue
as_issue (event.Issue step number name parent) = Some (record { name = name; parent = parent })
as_issue _ = None

unfoldable pub as_send : List Emission → Event → Option Sent
as_send emissions (event.Send step emission segments) =
    Some (record { emission = emission; segments = segments.items; packet = packet_at emissions emission })
as_send emissions _ = None

unfoldable pub as_pass : List Emission → Event → Option Pass
as_pass emissions (event.Pass step a hop generation emission) =
    Some (record { asn = a; generation = generation; hop = hop; emission = emission; packet = packet_at emissions emission })
as_pass emissions _ = None

unfoldable pub as_reveal : Event → Option Reveal
as_reveal (event.Reveal step holder) = Some (record { step = step; holder = holder })
as_reveal _ = None

-- the issues of the events, which are numbered from 1
abbrev pub issues_in : List Event → List Issue
issues_in events = filter_map as_issue events

abbrev pub sends_in : History → List Sent
sends_in h = filter_map (as_send h.emissions) h.events

abbrev pub passes_in : History → List Pass
passes_in h = filter_map (as_pass h.emissions) h.events

abbrev pub reveals_in : List Event → List Reveal
reveals_in events = filter_map as_reveal events

unfoldable pub facts_of : History → Facts
facts_of h = record {
  issues = issues_in h.events;
  sends = sends_in h;
  passes = passes_in h;
  reveals = reveals_in h.events;
}

-- the name of the hop that was accepted
unfoldable pub pass_name : Pass → HopName
pass_name w = record { asn = w.asn; generation = w.generation; body = body w.packet.route w.hop }

-- The number of the issue that a sent packet has at hop j: on the chain of the hop's segment, the one of the hop's
-- position.
unfoldable pub sent_issue : List Issue → Sent → ℕ → ℕ
sent_issue issues s j =
    let at = place s.packet.route.segments j
    in ancestor issues (slice_index_or s.segments at.segment 0) (at.head.count - position at)

-- the name of that hop, where the packet has it
unfoldable pub sent_name : List Issue → Sent → ℕ → Option HopName
sent_name issues s j = if nat_lt j (hop_count s.packet) then name_of issues (sent_issue issues s j) else None
