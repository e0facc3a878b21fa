use Rattle.std.proofs.Common.{◌≡◌, true, ◌+◌, ◌-◌, ◌^◌, ◌<◌, sym, subst}
use Rattle.epic_topo.specs.Network.{has}
use Rattle.epic_beacon.specs.Store.{store_of}
use Rattle.epic_actors.specs.Hosts.{HostsStandFor}
use Rattle.epic_world.specs.Refining.{Refines}
use Rattle.epic_world.specs.Standing.{Standing}
use Rattle.epic_world.proofs.Gone.{arrived}
use Rattle.epic_world.proofs.world.World.at_host.Goals as goal

pub invariant_of-self-2 : goal.invariant_of-self-2
invariant_of-self-2 c =
    let w = c.self.inside in
    let h = w.ledger.history in
    let known : has w.topo c.args.host.asn ≡ true = subst (λ (v : Standing). has v.network c.args.host.asn ≡ true) (sym c.self.view_is) c.requires.known in
    let history = c.in_ok-passed.ensures.ends.1 in
    subst (Refines w.topo (store_of w.beacons) w.keys w.routers c.arrive_here.new.hosts w.sources w.moment (w.steps + 1)) (sym history)
    (arrived w.topo (store_of w.beacons) w.keys w.routers w.hosts w.sources w.moment w.steps h c.self.invariant c.arrive_here.new.hosts c.args.host c.args.bytes.now
    c.is_topology.ensures known c.are_bytes.ensures (subst (λ (v : Standing). v.state.steps < 2 ^ 30 - 1) (sym c.self.view_is) c.requires.few)
    (subst (HostsStandFor w.topo w.moment c.arrive_here.new.hosts) history c.arrive_here.ensures.stand))
