-- No router accepts a packet twice, in the words of emissions: the first hop of an emission's turn is the least of its passes.
use Rattle.std.specs.Prelude.{◌≡◌, ℕ, ◌-◌, ◌≤◌, true, false, List, [], slice_get, Some}
use Rattle.epic_num.specs.declared.name.AsId.{AsId}
use Rattle.epic_num.specs.declared.name.HostId.{HostId}
use Rattle.epic_num.specs.Levels.{is_timed}
use Rattle.epic_layout.specs.Reading.{IsRead}
use Rattle.epic_topo.specs.Network.{Network}
use Rattle.epic_router.specs.Checks.{is_turn}
use Rattle.epic_ledger.specs.History.{History, Emission}
use Rattle.epic_ledger.specs.Facts.{packet_at}
use Rattle.epic_ledger.specs.Lawful.{IsLawful}
use Rattle.epic_ledger.specs.declared.event.Event.{Event}
use Rattle.epic_ledger.specs.declared.event.Event.TheVariants as event
use Rattle.epic_model.specs.Passing.{turned_at, arrived_at}
use Rattle.epic_model.specs.Windows.{NoneTwice}

-- the router of the AS passed hop j of the packet of this emission
pub record Passes (events : List Event) (emission : ℕ) (a : AsId) (j : ℕ) : Type 0 where
  pub index : ℕ
  pub step : ℕ
  pub generation : ℕ
  pub there : slice_get events index ≡ Some (event.Pass step a j generation emission)

-- and no hop of it before
pub record PassesFirst (events : List Event) (emission : ℕ) (a : AsId) (j : ℕ) : Type 0 where
  pub passes : Passes events emission a j
  pub least : (b : AsId) (k : ℕ) → Passes events emission b k → j ≤ k

-- a pass at a hop at which packets don't come to routers stands beside one of the hop before
abbrev pub BeginWell : List Emission → List Event → Type 0
BeginWell emissions events =
    (emission : ℕ) (a : AsId) (j : ℕ) → Passes events emission a j → is_turn (packet_at emissions emission) j ≡ false
    → (1 ≤ j) × Passes events emission a (j - 1)

-- no two emissions of levels 1 to 3 that one AS passed have one source, one timestamp and one first hop
abbrev pub NoTwoEmissions : History → Type 0
NoTwoEmissions h =
    (e f : ℕ) (a : AsId) (j : ℕ) → is_timed (packet_at h.emissions e).first ≡ true → is_timed (packet_at h.emissions f).first ≡ true
    → PassesFirst h.events e a j → PassesFirst h.events f a j
    → (packet_at h.emissions e).src ≡ (packet_at h.emissions f).src → (packet_at h.emissions e).ts ≡ (packet_at h.emissions f).ts
    → e ≡ f

-- ---- laws

-- with nothing in it a ledger has nothing twice
abbrev pub NothingTwice : Type 0
NothingTwice = NoneTwice (record { events = []; emissions = [] })

-- and a turn of any bytes at any moment puts nothing twice into it
abbrev pub TurnsStayOnce : Type 0
TurnsStayOnce =
    (t : Network) (step now : ℕ) (h : History) (a : AsId) (iface : ℕ) (bytes : List ℕ)
    → IsRead bytes → IsLawful h → NoneTwice h → NoneTwice (turned_at t step now h a iface bytes).history

-- nor does an arrival
abbrev pub ArrivalsStayOnce : Type 0
ArrivalsStayOnce =
    (t : Network) (step now : ℕ) (h : History) (d : HostId) (bytes : List ℕ)
    → NoneTwice h → NoneTwice (arrived_at t step now h d bytes).history

abbrev pub NoneTwiceByEmissions : Type 0
NoneTwiceByEmissions = (h : History) → NoneTwice h → BeginWell h.emissions h.events → NoTwoEmissions h

abbrev pub TurnsBeginWell : Type 0
TurnsBeginWell =
    (t : Network) (step now : ℕ) (h : History) (a : AsId) (iface : ℕ) (bytes : List ℕ)
    → IsRead bytes → IsLawful h → BeginWell h.emissions h.events
    → BeginWell (turned_at t step now h a iface bytes).history.emissions (turned_at t step now h a iface bytes).history.events
