use Rattle.std.proofs.Common.{◌≡◌, true, ◌+◌, ◌-◌, ◌^◌, ◌<◌, sym, subst}
use Rattle.epic_topo.specs.Network.{has}
use Rattle.epic_beacon.specs.Store.{store_of}
use Rattle.epic_actors.specs.Routers.{RoutersStandFor}
use Rattle.epic_world.specs.Refining.{Refines}
use Rattle.epic_world.specs.Standing.{Standing}
use Rattle.epic_world.proofs.Gone.{turned, generation_is}
use Rattle.epic_world.proofs.world.World.at_router.Goals as goal

pub turn_here-requires-clause-generation : goal.turn_here-requires-clause-generation
turn_here-requires-clause-generation c =
    let w = c.self.inside in
    generation_is w.topo (store_of w.beacons) w.keys w.routers w.hosts w.sources w.moment w.steps w.ledger.history c.self.invariant c.args.a c.generation-generation.result c.generation-generation.ensures

pub invariant_of-self-2 : goal.invariant_of-self-2
invariant_of-self-2 c =
    let w = c.self.inside in
    let h = w.ledger.history in
    let known : has w.topo c.args.a ≡ true = subst (λ (v : Standing). has v.network c.args.a ≡ true) (sym c.self.view_is) c.requires.known in
    let history = c.in_ok-passed.ensures.ends.1 in
    subst (Refines w.topo (store_of w.beacons) w.keys c.turn_here.new.routers w.hosts w.sources w.moment (w.steps + 1)) (sym history)
    (turned w.topo (store_of w.beacons) w.keys w.routers w.hosts w.sources w.moment w.steps h c.self.invariant c.turn_here.new.routers c.args.a c.args.iface c.args.bytes.now
    c.is_topology.ensures known c.are_bytes.ensures (subst (λ (v : Standing). v.state.steps < 2 ^ 30 - 1) (sym c.self.view_is) c.requires.few)
    (subst (RoutersStandFor w.topo w.moment c.turn_here.new.routers) history c.turn_here.ensures.stand))
