use Rattle.std.proofs.Common.{◌≡◌, ◌+◌, ◌-◌, ◌^◌, ◌<◌, sym, subst}
use Rattle.std.specs.Prelude.{Some}
use Rattle.epic_beacon.specs.Store.{store_of}
use Rattle.epic_ledger.specs.History.{Emission, emission_at}
use Rattle.epic_actors.specs.Hosts.{HostsStandFor}
use Rattle.epic_actors.specs.Routers.{RoutersStandFor}
use Rattle.epic_world.specs.Refining.{Refines}
use Rattle.epic_world.specs.Standing.{Standing}
use Rattle.epic_world.proofs.Gone.{was_carried}
use Rattle.epic_world.proofs.world.World.carry_from.Goals as goal

pub invariant_of-self-2 : goal.invariant_of-self-2
invariant_of-self-2 c =
    let w = c.self.inside in
    let h = w.ledger.history in
    let e : Emission = record { place = c.args.place; bytes = c.args.came.now } in
    let there = subst (λ (v : Standing). emission_at v.state.history.emissions c.args.number ≡ Some e) (sym c.self.view_is) c.requires.there in
    let small = subst (λ (v : Standing). v.state.steps < 2 ^ 30 - 1) (sym c.self.view_is) c.requires.few in
    let history = c.in_ok-told.ensures.history in
    subst (Refines w.topo (store_of w.beacons) w.keys c.carry_here.new.routers c.carry_here.new.hosts w.sources w.moment (w.steps + 1)) (sym history)
    (was_carried w.topo (store_of w.beacons) w.keys w.routers w.hosts w.sources w.moment w.steps h c.self.invariant c.carry_here.new.routers c.carry_here.new.hosts c.args.number e
    c.is_topology.ensures there small
    (subst (RoutersStandFor w.topo w.moment c.carry_here.new.routers) history c.carry_here.ensures.routed)
    (subst (HostsStandFor w.topo w.moment c.carry_here.new.hosts) history c.carry_here.ensures.hosted))
