use Rattle.std.proofs.Common.{◌≡◌, suc, ◌+◌, ◌-◌, length, sym, subst, ap, ◌∙◌, arith}
use Rattle.epic_num.specs.declared.passed.Passed.{Passed}
use Rattle.epic_layout.proofs.OneSpelling.{bytes_are_read}
use Rattle.epic_beacon.specs.Store.{store_of}
use Rattle.epic_model.specs.Keeping.{store_in}
use Rattle.epic_model.specs.Passing.{Happened}
use Rattle.epic_actors.specs.Hosts.{HostsStandFor}
use Rattle.epic_actors.specs.Routers.{HasRoom, RoutersStandFor, router_of}
use Rattle.epic_actors.proofs.Lasting.{hosts_stand_by_turns, routers_stand_by_arrivals}
use Rattle.epic_world.specs.Way.{IsReady}
use Rattle.epic_world.proofs.Grown.{turned_grows, arrived_grows}
use Rattle.epic_world.proofs.Carried.{no_emission, next_ready, generations_of, known_router, known_host, room_router, passed_router, passed_host, told_as}
use Rattle.epic_world.proofs.carrying.pass_on.Goals as goal

pub turn_at-requires-clause-generation : goal.turn_at-requires-clause-generation
turn_at-requires-clause-generation c =
    generations_of c.args.topo.now c.args.ledger.now.history (store_of c.args.beacons.now) c.in-Router.asn c.generation.result c.requires.stored c.generation.ensures

pub turn_at-requires-clause-known : goal.turn_at-requires-clause-known
turn_at-requires-clause-known c =
    let m = c.args.most - 1 in
    let is : c.args.most ≡ suc m = omega (arith, c.requires.some) in
    let r = subst (λ k. IsReady c.args.topo.now c.args.now c.args.step k (length c.args.came.now) c.args.ledger.now c.args.routers.now c.args.hosts.now c.args.number) is c.requires.ready in
    known_router _ _ _ _ _ _ _ _ _ r c.in-Router.asn c.in-Router.iface _ c.in-Router.ensures.emission

pub turn_at-requires-clause-room : goal.turn_at-requires-clause-room
turn_at-requires-clause-room c =
    let m = c.args.most - 1 in
    let is : c.args.most ≡ suc m = omega (arith, c.requires.some) in
    let r = subst (λ k. IsReady c.args.topo.now c.args.now c.args.step k (length c.args.came.now) c.args.ledger.now c.args.routers.now c.args.hosts.now c.args.number) is c.requires.ready in
    room_router _ _ _ _ _ _ _ _ _ r c.in-Router.asn c.in-Router.iface _ c.in-Router.ensures.emission

pub arrive_at-requires-clause-known : goal.arrive_at-requires-clause-known
arrive_at-requires-clause-known c =
    let m = c.args.most - 1 in
    let is : c.args.most ≡ suc m = omega (arith, c.requires.some) in
    let r = subst (λ k. IsReady c.args.topo.now c.args.now c.args.step k (length c.args.came.now) c.args.ledger.now c.args.routers.now c.args.hosts.now c.args.number) is c.requires.ready in
    known_host _ _ _ _ _ _ _ _ _ r c.in-Host.host _ c.in-Host.ensures.emission

pub returns-in-Router-clause-passed : goal.returns-in-Router-clause-passed
returns-in-Router-clause-passed c =
    let at = c.in-Router.ensures.emission in
    told_as c.args.topo.now c.args.step c.args.now c.args.ledger.now.history c.args.number _ _ c.turn_at.result at
    (passed_router c.args.topo.now c.args.step c.args.now c.args.ledger.now.history c.args.number c.in-Router.asn c.in-Router.iface _ at) c.turn_at.ensures.passed

pub returns-in-Router-clause-history : goal.returns-in-Router-clause-history
returns-in-Router-clause-history c =
    c.turn_at.ensures.history
    ∙ ap (λ (d : Happened). d.history) (sym (passed_router c.args.topo.now c.args.step c.args.now c.args.ledger.now.history c.args.number c.in-Router.asn c.in-Router.iface _ c.in-Router.ensures.emission))

pub returns-in-Router-clause-hosted : goal.returns-in-Router-clause-hosted
returns-in-Router-clause-hosted c =
    subst (HostsStandFor c.args.topo.now c.args.now c.args.hosts.now) (sym c.turn_at.ensures.history)
    (hosts_stand_by_turns c.args.topo.now c.args.step c.args.now c.args.ledger.now.history c.in-Router.asn c.in-Router.iface _ c.args.hosts.now (bytes_are_read _ c.are_bytes.ensures)
    c.requires.ready.inv.sound.lawful c.requires.ready.hosted)

pub returns-in-Router-clause-stored : goal.returns-in-Router-clause-stored
returns-in-Router-clause-stored c =
    let grows = turned_grows c.args.topo.now c.args.step c.args.now c.args.ledger.now.history c.in-Router.asn c.in-Router.iface _ (bytes_are_read _ c.are_bytes.ensures) in
    c.requires.stored ∙ (sym grows.stored ∙ ap (store_in c.args.topo.now) (sym c.turn_at.ensures.history))

pub returns-in-Router-clause-ready : goal.returns-in-Router-clause-ready
returns-in-Router-clause-ready c =
    let m = c.args.most - 1 in
    let t = c.args.topo.now in
    let is : c.args.most ≡ suc m = omega (arith, c.requires.some) in
    let r = subst (λ k. IsReady t c.args.now c.args.step k (length c.args.came.now) c.args.ledger.now c.args.routers.now c.args.hosts.now c.args.number) is c.requires.ready in
    let one : suc m ≡ m + 1 = omega arith in
    let known = known_router _ _ _ _ _ _ _ _ _ r c.in-Router.asn c.in-Router.iface _ c.in-Router.ensures.emission in
    let emission = ap (λ (x : Passed). x.emission) c.turn_at.ensures.passed in
    λ some.
    subst (λ n. IsReady t c.args.now c.args.step m (length c.args.came.now) c.turn_at.new.ledger c.turn_at.new.routers c.args.hosts.now n) (sym emission)
    (next_ready t c.args.now c.args.step m (length c.args.came.now) c.args.ledger.now c.turn_at.new.ledger c.args.routers.now c.turn_at.new.routers c.args.hosts.now c.args.number
    c.in-Router.asn c.in-Router.iface _ c.is_topology.ensures known c.are_bytes.ensures r c.in-Router.ensures.emission c.turn_at.ensures.history c.turn_at.ensures.stand
    (λ b h. c.turn_at.ensures.rooms b m (subst (λ k. HasRoom k (router_of c.args.routers.now b)) one h)) c.turn_at.ensures.events_spare c.turn_at.ensures.emissions_spare c.turn_at.ensures.bytes_spare
    (λ z. some (emission ∙ z)))

pub returns-in-Host-clause-passed : goal.returns-in-Host-clause-passed
returns-in-Host-clause-passed c =
    let at = c.in-Host.ensures.emission in
    told_as c.args.topo.now c.args.step c.args.now c.args.ledger.now.history c.args.number _ _ c.arrive_at.result at
    (passed_host c.args.topo.now c.args.step c.args.now c.args.ledger.now.history c.args.number c.in-Host.host _ at) c.arrive_at.ensures.passed

pub returns-in-Host-clause-history : goal.returns-in-Host-clause-history
returns-in-Host-clause-history c =
    c.arrive_at.ensures.history
    ∙ ap (λ (d : Happened). d.history) (sym (passed_host c.args.topo.now c.args.step c.args.now c.args.ledger.now.history c.args.number c.in-Host.host _ c.in-Host.ensures.emission))

pub returns-in-Host-clause-routed : goal.returns-in-Host-clause-routed
returns-in-Host-clause-routed c =
    subst (RoutersStandFor c.args.topo.now c.args.now c.args.routers.now) (sym c.arrive_at.ensures.history)
    (routers_stand_by_arrivals c.args.topo.now c.args.step c.args.now c.args.ledger.now.history c.in-Host.host _ c.args.routers.now c.requires.ready.routed)

pub returns-in-Host-clause-stored : goal.returns-in-Host-clause-stored
returns-in-Host-clause-stored c =
    let grows = arrived_grows c.args.topo.now c.args.step c.args.now c.args.ledger.now.history c.in-Host.host c.copy_emission-place.new.came in
    c.requires.stored ∙ (sym grows.stored ∙ ap (store_in c.args.topo.now) (sym c.arrive_at.ensures.history))

pub returns-in-Host-clause-ready : goal.returns-in-Host-clause-ready
returns-in-Host-clause-ready c =
    λ some. absurd (some (ap (λ (x : Passed). x.emission) c.arrive_at.ensures.passed ∙ no_emission c.args.topo.now c.args.step c.args.now c.args.ledger.now.history c.in-Host.host c.copy_emission-place.new.came))
