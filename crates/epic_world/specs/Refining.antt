-- Private: serves proofs of this crate alone; no public contract cites it.
-- How the objects of a world stand for its state.
use Rattle.std.specs.Prelude.{◌≡◌, ℕ, ◌+◌, ◌*◌, ◌≤◌, length}
use Rattle.epic_topo.specs.Network.{Network}
use Rattle.epic_keys.specs.Fetches.{FetchSet}
use Rattle.epic_beacon.specs.Kinds.{KindsKept}
use Rattle.epic_beacon.specs.Store.{Store}
use Rattle.epic_ledger.specs.History.{History, emitted}
use Rattle.epic_model.specs.Keeping.{store_in}
use Rattle.epic_model.specs.Passing.{most_emitted}
use Rattle.epic_model.specs.State.{State}
use Rattle.epic_model.specs.World.{IsWorld}
use Rattle.epic_actors.specs.Hosts.{HostTable, HostsStandFor}
use Rattle.epic_actors.specs.Routers.{RouterTable, RoutersStandFor}
use Rattle.epic_actors.specs.Sources.{KeysStandFor, SourceTable, SourcesStandFor}

-- the state of these parts
abbrev pub state_of : ℕ → ℕ → History → State
state_of moment steps h = record { moment = moment; steps = steps; history = h }

-- The state is one of a world. The stores of beacons and of keys, the routers, hosts and sources hold what the ledger tells. A step
-- records one event besides the two at most that come with each emission; each emission has 40 bytes at least, and all of them
-- no more than the limit.
pub record Refines (t : Network) (store : Store) (keys : FetchSet) (routers : RouterTable) (hosts : HostTable) (sources : SourceTable) (moment steps : ℕ) (h : History) : Type 0 where
  pub world : IsWorld t (state_of moment steps h)
  pub stored : store ≡ store_in t h
  pub kinds : KindsKept t store.beacons
  pub fetched : KeysStandFor keys h
  pub routed : RoutersStandFor t moment routers h
  pub hosted : HostsStandFor t moment hosts h
  pub sourced : SourcesStandFor sources h
  pub few_events : length h.events ≤ steps + 2 * length h.emissions
  pub few_emissions : 40 * length h.emissions ≤ emitted h.emissions
  pub few_bytes : emitted h.emissions ≤ most_emitted
