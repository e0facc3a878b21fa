-- What the ledger of every state keeps, so that honest packets arrive, and that all that happens keeps it.
use Rattle.std.specs.Prelude.{◌≡◌, ℕ, ◌+◌, ◌*◌, ◌/◌, ◌<◌, ◌≤◌, ◌^◌, true, max, if◌then◌else◌, List, [], ◌∷◌, ◌++◌, length, map, Option, None, Some, Ok, slice_get}
use Rattle.std.specs.List.{All}
use Rattle.std.specs.Option.{option_map_or}
use Rattle.arrayvec.specs.ArrayVec.{ArrayVec}
use Rattle.epic_num.specs.declared.hop.Level.{Level}
use Rattle.epic_num.specs.declared.key_name.Holder.{Holder}
use Rattle.epic_num.specs.declared.name.AsId.{AsId}
use Rattle.epic_num.specs.declared.name.HostId.{HostId}
use Rattle.epic_num.specs.declared.passed.Place.{Place}
use Rattle.epic_num.specs.declared.passed.Place.TheVariants.{Router, Host}
use Rattle.epic_num.specs.declared.segment.Leg.{Leg}
use Rattle.epic_num.specs.declared.segment.Segment.{Segment}
use Rattle.epic_num.specs.Bodies.{IsBody}
use Rattle.epic_num.specs.Chains.{Issue, issue_at}
use Rattle.epic_num.specs.Levels.{first_byte, is_first_byte}
use Rattle.epic_num.specs.Messages.{IsHost}
use Rattle.epic_num.specs.Paths.{path_end}
use Rattle.epic_num.specs.Same.{same_host}
use Rattle.epic_layout.specs.declared.wire.TheConstants.{MAX_PAYLOAD}
use Rattle.epic_layout.specs.Contents.{Contents}
use Rattle.epic_layout.specs.Reading.{IsRead}
use Rattle.epic_layout.specs.Spelling.{spelling}
use Rattle.epic_topo.specs.Lawful.{IsTopology}
use Rattle.epic_topo.specs.Network.{Network, has}
use Rattle.epic_beacon.specs.declared.beacon.Beacon.{Beacon}
use Rattle.epic_beacon.specs.Chained.{AreChained}
use Rattle.epic_beacon.specs.Laws.{IsIssued}
use Rattle.epic_beacon.specs.Segments.{segment}
use Rattle.epic_beacon.specs.Store.{Store}
use Rattle.epic_beacon.specs.Told.{beacons_in}
use Rattle.epic_path.specs.Joins.{joined}
use Rattle.epic_ends.specs.Admitting.{next_ts}
use Rattle.epic_ends.specs.Sending.{sent_packet}
use Rattle.epic_ledger.specs.History.{History, emission_at}
use Rattle.epic_ledger.specs.Facts.{Sent, issues_in, sends_in, reveals_in}
use Rattle.epic_ledger.specs.OneMore.{with_event}
use Rattle.epic_ledger.specs.declared.event.Event.TheVariants as event
use Rattle.epic_audit.specs.Events.{IsUnsent}
use Rattle.epic_audit.specs.Reveals.{IsRevealed}
use Rattle.epic_model.specs.Carried.{IsCarried, IsProvedAllAlong, NoOtherPassed}
use Rattle.epic_model.specs.Honest.{Honest}
use Rattle.epic_model.specs.Passing.{rolls, turned_at, arrived_at, pass_at, carried, last_history}
use Rattle.epic_model.specs.Sends.{names_of, IsRouted}
use Rattle.epic_model.specs.Sound.{IsSound}
use Rattle.epic_model.specs.Twice.{BeginWell, NoTwoEmissions}
use Rattle.epic_model.specs.Windows.{NoneTwice}

-- ---- what is kept

-- a sent packet has a way, and its emission is at interface 0 of its source's AS
pub record IsOnWay (h : History) (s : Sent) : Type 0 where
  pub routed : IsRouted (issues_in h.events) s
  pub due : emission_at h.emissions s.emission ≡ Some (record { place = Router s.packet.src.asn 0; bytes = spelling s.packet })

-- no issue's segment begins later than this moment
abbrev pub ArePast : ℕ → List Issue → Type 0
ArePast now issues = (n : ℕ) (i : Issue) → issue_at issues n ≡ Some i → i.name.body.ts_path * 1000000 ≤ now

-- the parts of each issue's body fit their types
abbrev pub AreInRange : List Issue → Type 0
AreInRange issues = (n : ℕ) (i : Issue) → issue_at issues n ≡ Some i → IsBody i.name.body

-- the place where a packet is due is in an AS of the topology
abbrev pub IsDue : Network → Place → Type 0
IsDue t (Router a iface) = has t a ≡ true
IsDue t (Host d) = has t d.asn ≡ true

-- A ledger is sound at this step, and no packet passed twice. Each packet that was sent has a way. The issues began by this moment,
-- are in range, and make chains. Emissions are due in ASes of the topology, and passes of second hops stand beside those of first.
pub record Inv (t : Network) (h : History) (now step : ℕ) : Type 0 where
  pub sound : IsSound t h step
  pub once : NoneTwice h
  pub sends : (n : ℕ) (s : Sent) → slice_get (sends_in h) n ≡ Some s → IsOnWay h s
  pub past : ArePast now (issues_in h.events)
  pub in_range : AreInRange (issues_in h.events)
  pub chained : AreChained (beacons_in t (issues_in h.events))
  pub places : All (λ e. IsDue t e.place) h.emissions
  pub begin : BeginWell h.emissions h.events

-- ---- what follows from it

-- every packet that was sent is carried to its destination where it is honest
abbrev pub HonestSendsArrive : Type 0
HonestSendsArrive =
    (t : Network) (h : History) (now step n : ℕ) (s : Sent)
    → IsTopology t → Inv t h now step → slice_get (sends_in h) n ≡ Some s → Honest t h now s.packet (names_of (issues_in h.events) s)
    → IsCarried s.packet (carried t (step + 1) now 33 h s.emission)

-- and each hop on its way is proved, where no other hop has passed with its path bytes
abbrev pub HonestSendsAreProved : Type 0
HonestSendsAreProved =
    (t : Network) (h : History) (now step n : ℕ) (s : Sent)
    → IsTopology t → Inv t h now step → slice_get (sends_in h) n ≡ Some s → Honest t h now s.packet (names_of (issues_in h.events) s)
    → NoOtherPassed h s.packet (names_of (issues_in h.events) s)
    → IsProvedAllAlong s.packet (carried t (step + 1) now 33 h s.emission)

-- no router accepts a packet twice
abbrev pub InvTwice : Type 0
InvTwice = (t : Network) (h : History) (now step : ℕ) → Inv t h now step → NoTwoEmissions h

-- ---- what keeps it

-- nothing has happened
abbrev pub InvStart : Type 0
InvStart = (t : Network) → Inv t (record { events = []; emissions = [] }) 0 0

-- a later moment, and a later step
abbrev pub InvLater : Type 0
InvLater = (t : Network) (h : History) (now later step after : ℕ) → now ≤ later → step ≤ after → Inv t h now step → Inv t h later after

-- a turn of any bytes at an AS of the topology
abbrev pub InvTurns : Type 0
InvTurns =
    (t : Network) (h : History) (now step : ℕ) (a : AsId) (iface : ℕ) (bytes : List ℕ)
    → IsTopology t → has t a ≡ true → IsRead bytes
    → Inv t h now step → Inv t (turned_at t step now h a iface bytes).history now step

-- an arrival of any bytes
abbrev pub InvArrivals : Type 0
InvArrivals =
    (t : Network) (h : History) (now step : ℕ) (d : HostId) (bytes : List ℕ)
    → Inv t h now step → Inv t (arrived_at t step now h d bytes).history now step

-- bytes at a place of the topology, and a carry
abbrev pub InvPasses : Type 0
InvPasses =
    (t : Network) (h : History) (now step : ℕ) (place : Place) (bytes : List ℕ)
    → IsTopology t → IsDue t place → IsRead bytes
    → Inv t h now step → Inv t (pass_at t step now h place bytes).history now step

abbrev pub InvCarries : Type 0
InvCarries =
    (t : Network) (now step most : ℕ) (h : History) (number : ℕ)
    → IsTopology t
    → Inv t h now step → Inv t (last_history h (carried t step now most h number)) now step

-- the beacons of the issues, and the generations
unfoldable pub store_in : Network → History → Store
store_in t h = record { beacons = beacons_in t (issues_in h.events); generations = rolls h.events }

-- a hop that is issued at this moment
abbrev pub InvIssues : Type 0
InvIssues =
    (t : Network) (h : History) (now step out exp : ℕ) (b : Beacon)
    → IsTopology t → out < 2 ^ 16 → exp < 2 ^ 8 → now / 1000000 < 2 ^ 32
    → IsIssued t (store_in t h) out exp now b
    → Inv t h now step
    → Inv t (with_event h (event.Issue step (length (issues_in h.events) + 1) b.name b.parent)) now step

-- the ledger after a packet was sent over the segments of these issues
unfoldable pub sent_at : ℕ → History → ArrayVec ℕ → Contents → History
sent_at step h numbers p = record {
  events = h.events ++ event.Send step (length h.emissions + 1) numbers ∷ [];
  emissions = h.emissions ++ record { place = Router p.src.asn 0; bytes = spelling p } ∷ [];
}

-- What a source sends: a path over the segments of these issues from its AS to the destination's, and a packet within the limits.
pub record IsSendable (t : Network) (h : History) (version : ℕ) (level : Level) (src dst : HostId) (ts : ℕ) (numbers : List ℕ) (legs : List Leg) (payload : List ℕ) : Type 0 where
  pub segments : List Segment
  pub ended : map (segment (beacons_in t (issues_in h.events))) numbers ≡ map (λ s. Ok s) segments
  pub path : joined src.asn segments ≡ Ok legs
  pub leads : path_end legs ≡ dst.asn
  pub known : has t src.asn ≡ true
  pub exists : is_first_byte (first_byte version level) ≡ true
  pub src_fits : IsHost src
  pub dst_fits : IsHost dst
  pub ts_fits : ts < 2 ^ 64
  pub payload_fits : length payload ≤ MAX_PAYLOAD

-- a packet that is sent, as its source's first with this timestamp
abbrev pub InvSends : Type 0
InvSends =
    (t : Network) (h : History) (now step version : ℕ) (level : Level) (src dst : HostId) (ts : ℕ) (numbers : ArrayVec ℕ) (legs : List Leg) (payload : List ℕ)
    → IsTopology t → IsSendable t h version level src dst ts numbers.items legs payload
    → (let p = sent_packet t legs version level src dst ts payload in
    IsUnsent (sends_in h) p
    → Inv t h now step
    → Inv t (sent_at step h numbers p) now step)

-- the greatest timestamp of what a host sent
abbrev pub latest_sent : List Sent → HostId → Option ℕ
latest_sent [] src = None
latest_sent (s ∷ sends) src =
    if same_host s.packet.src src then Some (option_map_or (max s.packet.ts) (latest_sent sends src) s.packet.ts) else latest_sent sends src

-- the next timestamp is a new one
abbrev pub NextIsUnsent : Type 0
NextIsUnsent =
    (sends : List Sent) (now : ℕ) (p : Contents)
    → p.ts ≡ next_ts (latest_sent sends p.src) now → IsUnsent sends p

-- an event of which windows, issues and sends say nothing
abbrev pub InvOthers : Type 0
InvOthers =
    (t : Network) (h : History) (now step : ℕ)
    → Inv t h now step
    → ((source owner : AsId) (epoch : ℕ) → Inv t (with_event h (event.Fetch step source owner epoch)) now step)
    × ((holder : Holder) → (IsRevealed (reveals_in h.events) holder → ⊥) → Inv t (with_event h (event.Reveal step holder)) now step)
    × ((a : AsId) (generation : ℕ) → Inv t (with_event h (event.Roll step a generation)) now step)

-- ---- that all this is met

-- a ledger keeps all this, over a topology, and a packet that was sent is honest
pub record HasHonestSend : Type 0 where
  pub network : Network
  pub history : History
  pub now : ℕ
  pub step : ℕ
  pub send : Sent
  pub topology : IsTopology network
  pub inv : Inv network history now step
  pub sent : slice_get (sends_in history) 0 ≡ Some send
  pub honest : Honest network history now send.packet (names_of (issues_in history.events) send)
  pub none_passed : NoOtherPassed history send.packet (names_of (issues_in history.events) send)

-- there is such a ledger
abbrev pub SomeSendIsHonest : Type 0
SomeSendIsHonest = HasHonestSend
