-- That routers and hosts go on to stand for the ledger as other things happen.
use Rattle.std.specs.Prelude.{◌≡◌, ℕ, ◌≤◌, List, [], None}
use Rattle.arrayvec.specs.ArrayVec.{ArrayVec}
use Rattle.epic_num.specs.declared.name.AsId.{AsId}
use Rattle.epic_num.specs.declared.name.HostId.{HostId}
use Rattle.epic_layout.specs.Contents.{Contents}
use Rattle.epic_layout.specs.Reading.{IsRead}
use Rattle.epic_topo.specs.Network.{Network}
use Rattle.epic_ledger.specs.History.{History}
use Rattle.epic_ledger.specs.Lawful.{IsLawful}
use Rattle.epic_ledger.specs.OneMore.{with_event}
use Rattle.epic_ledger.specs.declared.event.Event.{Event}
use Rattle.epic_ledger.specs.declared.event.Event.TheVariants as event
use Rattle.epic_model.specs.Keeping.{sent_at}
use Rattle.epic_model.specs.Passing.{turned_at, arrived_at}
use Rattle.epic_actors.specs.Hosts.{HostTable, HostsStandFor, host_of}
use Rattle.epic_actors.specs.Routers.{RouterTable, RoutersStandFor, router_of}

-- an event that no window remembers: neither a pass nor an arrival
abbrev pub IsOther : Event → Type 0
IsOther (event.Pass step a hop generation emission) = ⊥
IsOther (event.Arrive step host src ts hops checked) = ⊥
IsOther (event.Issue step number name parent) = Unit {0}
IsOther (event.Fetch step source owner epoch) = Unit {0}
IsOther (event.Send step emission segments) = Unit {0}
IsOther (event.Reveal step holder) = Unit {0}
IsOther (event.Roll step a generation) = Unit {0}

-- what stands for one ledger at a moment stands for another at another
pub record StandOn (t : Network) (now : ℕ) (h : History) (later : ℕ) (g : History) : Type 0 where
  pub routers : (table : RouterTable) → RoutersStandFor t now table h → RoutersStandFor t later table g
  pub hosts : (table : HostTable) → HostsStandFor t now table h → HostsStandFor t later table g

-- no router and no host stand for a ledger in which nothing happened
abbrev pub NoneStand : Type 0
NoneStand =
    (t : Network) (now : ℕ)
    → (let h : History = record { events = []; emissions = [] } in
    ((table : RouterTable) → ((a : AsId) → router_of table a ≡ None) → RoutersStandFor t now table h)
    × ((table : HostTable) → ((d : HostId) → host_of table d ≡ None) → HostsStandFor t now table h))

-- time passes
abbrev pub StandAsTimePasses : Type 0
StandAsTimePasses = (t : Network) (h : History) (now later : ℕ) → now ≤ later → StandOn t now h later h

-- after an arrival the routers stand as they are, and after a turn the hosts
abbrev pub RoutersStandByArrivals : Type 0
RoutersStandByArrivals =
    (t : Network) (step now : ℕ) (h : History) (d : HostId) (bytes : List ℕ) (table : RouterTable)
    → RoutersStandFor t now table h → RoutersStandFor t now table (arrived_at t step now h d bytes).history

abbrev pub HostsStandByTurns : Type 0
HostsStandByTurns =
    (t : Network) (step now : ℕ) (h : History) (a : AsId) (iface : ℕ) (bytes : List ℕ) (table : HostTable)
    → IsRead bytes → IsLawful h
    → HostsStandFor t now table h → HostsStandFor t now table (turned_at t step now h a iface bytes).history

-- any other event is recorded, or a packet is sent
abbrev pub StandByOthers : Type 0
StandByOthers = (t : Network) (now : ℕ) (h : History) (e : Event) → IsLawful h → IsOther e → StandOn t now h now (with_event h e)

abbrev pub StandBySends : Type 0
StandBySends =
    (t : Network) (now step : ℕ) (h : History) (numbers : ArrayVec ℕ) (p : Contents)
    → IsLawful h → StandOn t now h now (sent_at step h numbers p)
