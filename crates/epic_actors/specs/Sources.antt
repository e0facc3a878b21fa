-- The hosts of a world that send packets, each made at first use. Their last timestamps stand for what the ledger tells.
use Rattle.std.specs.Prelude.{◌≡◌, ◌≢◌, ℕ, ◌+◌, List, [], Option, None, Some, Ok, length}
use Rattle.std.specs.BTreeMap.{is_at}
use Rattle.std.specs.Map.{lookup}
use Rattle.arrayvec.specs.ArrayVec.{ArrayVec}
use Rattle.epic_num.specs.declared.name.AsId.{AsId}
use Rattle.epic_num.specs.declared.name.HostId.{HostId}
use Rattle.epic_num.specs.declared.segment.Leg.{Leg}
use Rattle.epic_num.specs.declared.segment.Segment.{Segment}
use Rattle.epic_num.specs.Paths.{hop_count}
use Rattle.epic_layout.specs.Contents.{Contents, header_len_of}
use Rattle.epic_layout.specs.Reading.{IsRead}
use Rattle.epic_topo.specs.Network.{Network}
use Rattle.epic_keys.specs.Fetches.{Adds, Fetch, FetchSet, IsNone, is_fetched}
use Rattle.epic_beacon.specs.Told.{beacons_in}
use Rattle.epic_path.specs.Joins.{joined}
use Rattle.epic_ends.specs.Sources.{Sender}
use Rattle.epic_ledger.specs.History.{History}
use Rattle.epic_ledger.specs.Facts.{as_send, issues_in, sends_in}
use Rattle.epic_ledger.specs.Lawful.{IsLawful}
use Rattle.epic_ledger.specs.OneMore.{with_event}
use Rattle.epic_ledger.specs.declared.event.Event.{Event}
use Rattle.epic_ledger.specs.declared.event.Event.TheVariants as event
use Rattle.epic_model.specs.Keeping.{latest_sent, sent_at}
use Rattle.epic_model.specs.Passing.{turned_at, arrived_at}
use Rattle.epic_model.specs.State.{State, as_fetch, is_fetched_in}
use Rattle.epic_model.specs.Steps.{segments_of}
use Rattle.epic_actors.specs.Hosts.{host_cmp}

-- what is seen of the sources: the entries, by the numbers of their ASes and their own there, are read by `source_of` alone
pub record SourceTable : Type 0 where
  pub entries : List ((ℕ × ℕ) × Sender)

-- a host's source, if it was made
unfoldable pub source_of : SourceTable → HostId → Option Sender
source_of table d = lookup (is_at (host_cmp (d.asn.0, d.host))) table.entries

-- A host's source is its own, and its last timestamp is the latest that the ledger tells of the host. Of a host without a source the
-- ledger tells none.
abbrev pub SourceStandsAt : History → HostId → Option Sender → Type 0
SourceStandsAt h d None = latest_sent (sends_in h) d ≡ None
SourceStandsAt h d (Some s) = s ≡ record { host = d; last = latest_sent (sends_in h) d }

-- so all hosts' sources
abbrev pub SourcesStandFor : SourceTable → History → Type 0
SourcesStandFor table h = (d : HostId) → SourceStandsAt h d (source_of table d)

-- the later ledger tells this timestamp as the host's latest, and of all other hosts what the earlier tells
pub record IsLatest (src : HostId) (ts : ℕ) (before after : History) : Type 0 where
  pub here : latest_sent (sends_in after) src ≡ Some ts
  pub others : (d : HostId) → src ≢ d → latest_sent (sends_in after) d ≡ latest_sent (sends_in before) d

-- the keys that were fetched are those of which the ledger tells
abbrev pub KeysStandFor : FetchSet → History → Type 0
KeysStandFor keys h = (f : Fetch) → is_fetched keys f ≡ is_fetched_in h.events f

-- ---- paths and packets

-- the legs are the path from a host's AS over the segments of these issues
pub record IsPathOver (t : Network) (h : History) (src : HostId) (numbers : List ℕ) (legs : List Leg) : Type 0 where
  pub segments : List Segment
  pub found : segments_of (beacons_in t (issues_in h.events)) numbers ≡ Ok segments
  pub path : joined src.asn segments ≡ Ok legs

-- how many bytes a packet over a path has
unfoldable pub packet_len : List Leg → ℕ → List ℕ → ℕ
packet_len legs first payload = header_len_of first (length legs) (hop_count legs) + length payload

-- how many bytes a packet has at most
abbrev pub most_bytes : ℕ
most_bytes = 8880

-- the state at a moment after so many steps
abbrev pub state_at : ℕ → ℕ → History → State
state_at now steps h = record { moment = now; steps = steps; history = h }

-- ---- as other things happen

-- what stands for one ledger stands for another
abbrev pub SourcesStandOn : History → History → Type 0
SourcesStandOn h g = (table : SourceTable) → SourcesStandFor table h → SourcesStandFor table g

abbrev pub KeysStandOn : History → History → Type 0
KeysStandOn h g = (keys : FetchSet) → KeysStandFor keys h → KeysStandFor keys g

-- no source and no key stand for a ledger in which nothing happened
abbrev pub NoSendersStand : Type 0
NoSendersStand =
    (let h : History = record { events = []; emissions = [] } in
    ((table : SourceTable) → ((d : HostId) → source_of table d ≡ None) → SourcesStandFor table h)
    × ((keys : FetchSet) → IsNone (is_fetched keys) → KeysStandFor keys h))

-- after a turn, and after an arrival
abbrev pub SendersStandByTurns : Type 0
SendersStandByTurns =
    (t : Network) (step now : ℕ) (h : History) (a : AsId) (iface : ℕ) (bytes : List ℕ) → IsRead bytes → IsLawful h
    → (let g = (turned_at t step now h a iface bytes).history in
    SourcesStandOn h g × KeysStandOn h g)

abbrev pub SendersStandByArrivals : Type 0
SendersStandByArrivals =
    (t : Network) (step now : ℕ) (h : History) (d : HostId) (bytes : List ℕ)
    → (let g = (arrived_at t step now h d bytes).history in
    SourcesStandOn h g × KeysStandOn h g)

-- after another event: the sources unless it is a send, the keys unless it is a fetch
abbrev pub SendersStandByOthers : Type 0
SendersStandByOthers =
    (h : History) (e : Event)
    → (as_send h.emissions e ≡ None → SourcesStandOn h (with_event h e)) × (as_fetch e ≡ None → KeysStandOn h (with_event h e))

-- after a send the keys
abbrev pub KeysStandBySends : Type 0
KeysStandBySends = (step : ℕ) (h : History) (numbers : ArrayVec ℕ) (p : Contents) → KeysStandOn h (sent_at step h numbers p)

-- after a fetch the keys with those that were fetched
abbrev pub KeysStandByFetches : Type 0
KeysStandByFetches =
    (step : ℕ) (h : History) (f : Fetch) (old new : FetchSet)
    → KeysStandFor old h → Adds (is_fetched old) (is_fetched new) f
    → KeysStandFor new (with_event h (event.Fetch step f.source f.owner f.epoch))
