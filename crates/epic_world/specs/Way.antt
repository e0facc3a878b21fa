-- Private: serves proofs of this crate alone; no public contract cites it.
-- The room that is made before a packet is carried.
use Rattle.std.specs.Prelude.{◌≡◌, ℕ, zero, suc, ◌+◌, ◌*◌, ◌<◌, ◌≤◌, ◌==◌, ◌&&◌, true, not, if◌then◌else◌, length, Some, IfSome}
use Rattle.epic_num.specs.declared.name.AsId.{AsId}
use Rattle.epic_num.specs.declared.passed.Place.{Place}
use Rattle.epic_num.specs.declared.passed.Place.TheVariants.{Router, Host}
use Rattle.epic_layout.specs.Contents.{Contents}
use Rattle.epic_layout.specs.Layout.{parse}
use Rattle.epic_layout.specs.Route.{Route, place, is_last, egress}
use Rattle.epic_topo.specs.Network.{Network, has, neighbour}
use Rattle.epic_ledger.specs.History.{Emission, emission_at}
use Rattle.epic_ledger.specs.Recorded.{Recorded}
use Rattle.epic_model.specs.Keeping.{Inv}
use Rattle.epic_actors.specs.Hosts.{HasHostRoom, HostTable, HostsStandFor, host_of}
use Rattle.epic_actors.specs.Routers.{HasRoom, RouterTable, RoutersStandFor, router_of}

-- the last of the hops that a router handles from hop j on
unfoldable pub last_hop : Route → ℕ → ℕ
last_hop r j = if is_last (place r.segments j) && not (j + 1 == length r.hops) then j + 1 else j

-- each router on the way from hop j on, of at most so many, has room for n packets
abbrev pub WayHasRoom : ℕ → Network → RouterTable → ℕ → AsId → Route → ℕ → Type 0
WayHasRoom n t routers zero a r j = Unit {0}
WayHasRoom n t routers (suc most) a r j =
    HasRoom n (router_of routers a)
    × (j < length r.hops → IfSome (neighbour t a (egress r (last_hop r j))) (λ far. WayHasRoom n t routers most far.0 r (last_hop r j + 1)))

-- so from the place where a packet is due, and the host where it ends has room for one
abbrev pub PlaceHasRoom : ℕ → Network → RouterTable → HostTable → Place → Contents → Type 0
PlaceHasRoom n t routers hosts (Router a iface) p =
    WayHasRoom n t routers n a p.route p.current × (has t p.dst.asn ≡ true → HasHostRoom 1 (host_of hosts p.dst))
PlaceHasRoom n t routers hosts (Host d) p = HasHostRoom 1 (host_of hosts d)

-- the packet of an emission, of so many bytes, can be carried over at most so many places: nothing more is needed of memory
pub record IsReady (t : Network) (now step most size : ℕ) (ledger : Recorded) (routers : RouterTable) (hosts : HostTable) (number : ℕ) : Type 0 where
  pub emission : Emission
  pub there : emission_at ledger.history.emissions number ≡ Some emission
  pub size_is : length emission.bytes ≡ size
  pub inv : Inv t ledger.history now step
  pub routed : RoutersStandFor t now routers ledger.history
  pub hosted : HostsStandFor t now hosts ledger.history
  pub events : 2 * most ≤ ledger.spare.events
  pub emissions : most ≤ ledger.spare.emissions
  pub bytes : most * size ≤ ledger.spare.bytes
  pub rooms : PlaceHasRoom most t routers hosts emission.place (parse emission.bytes)
