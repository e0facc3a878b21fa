-- Private: what has to be known of the lines of a ledger file to tell whether a line may follow them.
use Rattle.std.specs.Prelude.{◌≡◌, ℕ, ◌+◌, ◌-◌, ◌<◌, ◌==◌, ◌&&◌, nat_lt, nat_le, Bool, true, false, List, [], ◌∷◌, ◌++◌, map, length, slice_get, Option, None, Result, Ok, Err, if◌then◌else◌}
use Rattle.std.specs.Option.{option_map_or}
use Rattle.epic_num.specs.Same.{same_host}
use Rattle.epic_layout.specs.declared.head.SegmentHead.{SegmentHead}
use Rattle.epic_layout.specs.Contents.{Contents, hop_count}
use Rattle.epic_layout.specs.Layout.{parse}
use Rattle.epic_num.specs.Chains.{Issue}
use Rattle.epic_topo.specs.Network.{Network, has}
use Rattle.epic_ledger.specs.declared.event.Event.{Event}
use Rattle.epic_ledger.specs.declared.event.Event.TheVariants as event
use Rattle.epic_ledger.specs.Facts.{issues_in, packet_at}
use Rattle.epic_ledger.specs.History.{History}
use Rattle.epic_record.specs.declared.fault.FileKind.{FileKind}
use Rattle.epic_record.specs.declared.fault.FileKind.TheVariants.{BadPlace}
use Rattle.epic_record.specs.declared.item.Item.{Item}
use Rattle.epic_record.specs.declared.item.Item.TheVariants as items
use Rattle.epic_record.specs.LedgerFile.{due_as, holder_as, is_packet}

-- the position of each issue, the number of emissions, and of the newest of them the numbers of hops: of each segment, and of all
pub record Seen : Type 0 where
  pub positions : List ℕ
  pub emissions : ℕ
  pub counts : List ℕ
  pub hops : ℕ

-- the numbers of hops of a packet's segments
abbrev pub counts_of : Contents → List ℕ
counts_of p = map (λ (s : SegmentHead). s.count) p.route.segments

-- the positions of issues
abbrev pub positions_of : List Issue → List ℕ
positions_of issues = map (λ (i : Issue). i.name.body.pos) issues

-- what is known of the lines that tell this ledger
pub record IsSeen (seen : Seen) (h : History) : Type 0 where
  pub positions : seen.positions ≡ positions_of (issues_in h.events)
  pub emissions : seen.emissions ≡ length h.emissions
  pub counts : 0 < length h.emissions → seen.counts ≡ counts_of (packet_at h.emissions seen.emissions)
  pub hops : 0 < length h.emissions → seen.hops ≡ hop_count (packet_at h.emissions seen.emissions)

-- the position of the issue with a number
abbrev pub position_at : List ℕ → ℕ → Option ℕ
position_at positions number = if number == 0 then None else slice_get positions (number - 1)

-- the first of a chain, or the next after an earlier issue
abbrev pub continues : List ℕ → ℕ → ℕ → Bool
continues positions position parent =
    if parent == 0 then position == 1
    else option_map_or (λ before. position == before + 1) (position_at positions parent) false

-- the issues are there, one a segment, and each one's position is the number of the segment's hops
abbrev pub are_ends : List ℕ → List ℕ → List ℕ → Bool
are_ends positions [] [] = true
are_ends positions (number ∷ more) (count ∷ counts) =
    option_map_or (λ position. position == count) (position_at positions number) false && are_ends positions more counts
are_ends positions numbers counts = false

abbrev pub is_newest_seen : Seen → ℕ → Bool
is_newest_seen seen emission = nat_lt 0 emission && emission == seen.emissions

-- an event may follow
unfoldable pub event_fits : Network → Seen → Event → Bool
event_fits t seen (event.Issue step number x parent) =
    number == length seen.positions + 1 && has t x.asn && nat_le x.body.pos 16
    && continues seen.positions x.body.pos parent
event_fits t seen (event.Fetch step source owner epoch) = has t source && has t owner
event_fits t seen (event.Send step emission segments) =
    is_newest_seen seen emission && are_ends seen.positions segments.items seen.counts
event_fits t seen (event.Pass step a hop generation emission) =
    has t a && is_newest_seen seen emission && nat_lt hop seen.hops
event_fits t seen (event.Arrive step host src ts hops checked) =
    has t host.asn && nat_le 2 hops && nat_le hops 32
event_fits t seen (event.Reveal step who) = has t (holder_as who)
event_fits t seen (event.Roll step a generation) = has t a

-- a line may follow
unfoldable pub item_fits : Network → Seen → Item → Bool
item_fits t seen (items.Event e) = event_fits t seen e
item_fits t seen (items.Emission number due bytes) =
    number == seen.emissions + 1 && has t (due_as due) && is_packet bytes
item_fits t seen (items.AcceptHop a generation hop bytes) =
    has t a && is_packet bytes && nat_lt hop (hop_count (parse bytes))
item_fits t seen (items.AcceptDest host bytes) =
    has t host.asn && is_packet bytes && same_host (parse bytes).dst host

-- what a line tells, where it may follow
abbrev pub fitting : Network → Seen → Result Item FileKind → Result Item FileKind
fitting t seen (Err kind) = Err kind
fitting t seen (Ok item) = if item_fits t seen item then Ok item else Err BadPlace

-- what is known after an event
unfoldable pub seen_event : Seen → Event → Seen
seen_event seen (event.Issue step number x parent) = record {
  positions = seen.positions ++ x.body.pos ∷ [];
  emissions = seen.emissions;
  counts = seen.counts;
  hops = seen.hops;
}
seen_event seen e = seen

-- what is known after a line
unfoldable pub seen_after : Seen → Item → Seen
seen_after seen (items.Event e) = seen_event seen e
seen_after seen (items.Emission number due bytes) = record {
  positions = seen.positions;
  emissions = number;
  counts = counts_of (parse bytes);
  hops = hop_count (parse bytes);
}
seen_after seen item = seen
