use Rattle.std.proofs.Common.{sym, subst, ap, ◌∙◌}
use Rattle.epic_num.specs.declared.name.HostId.{HostId}
use Rattle.epic_layout.specs.Layout.{parse}
use Rattle.epic_topo.specs.Network.{has}
use Rattle.epic_actors.specs.Hosts.{HasHostRoom, host_of}
use Rattle.epic_actors.proofs.Tables.{on_ok}
use Rattle.epic_world.specs.Way.{WayHasRoom}
use Rattle.epic_world.proofs.Carried.{router_place}
use Rattle.epic_world.proofs.carrying.ready_place.Goals as goal

pub returns-then-has-clause-room : goal.returns-then-has-clause-room
returns-then-has-clause-room c =
    let way = subst (λ j. WayHasRoom 33 c.args.topo.now c.ready_way.new.routers 33 c.in-Router.asn c.of-packet.result.route j) c.current.ensures c.in_ok-ready_way-in-Router.ensures.room in
    on_ok c.ready.result
    (λ room. router_place c.args.topo.now c.ready_way.new.routers c.ready.new.self c.args.place c.in-Router.asn c.in-Router.iface (parse c.args.bytes.now) c.of-packet.result
    c.in-Router.is c.of-packet.ensures way (λ _. subst (λ (d : HostId). HasHostRoom 1 (host_of c.ready.new.self d)) c.dst-dst.ensures room))
    c.ready.ensures.room

pub returns-else-has-clause-room : goal.returns-else-has-clause-room
returns-else-has-clause-room c =
    let way = subst (λ j. WayHasRoom 33 c.args.topo.now c.ready_way.new.routers 33 c.in-Router.asn c.of-packet.result.route j) c.current.ensures c.in_ok-ready_way-in-Router.ensures.room in
    let unknown = sym (ap (λ (d : HostId). has c.args.topo.now d.asn) c.dst-dst.ensures) ∙ (sym c.has.ensures ∙ c.if-has.false) in
    router_place c.args.topo.now c.ready_way.new.routers c.args.hosts.now c.args.place c.in-Router.asn c.in-Router.iface (parse c.args.bytes.now) c.of-packet.result
    c.in-Router.is c.of-packet.ensures way (λ known. (let never = sym known ∙ unknown in absurd (cc)))
