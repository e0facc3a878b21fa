use Rattle.std.proofs.Common.{◌≡◌, suc, ◌-◌, arith}
use Rattle.epic_actors.proofs.Tables.{on_ok}
use Rattle.epic_world.proofs.Way.{way_here}
use Rattle.epic_world.proofs.carrying.+ready_way.Goals as goal

pub returns-in-Some-clause-kept : goal.returns-in-Some-clause-kept
returns-in-Some-clause-kept z c = λ b m h. c.ready_way.ensures.kept b m (c.ready.ensures.kept b m h)

pub returns-in-Some-clause-stand : goal.returns-in-Some-clause-stand
returns-in-Some-clause-stand z c = λ now h s. c.ready_way.ensures.stand now h (c.ready.ensures.stand now h s)

pub returns-in-Some-clause-room : goal.returns-in-Some-clause-room
returns-in-Some-clause-room z c =
    let m = c.args.most - 1 in
    let is : suc m ≡ c.args.most = omega (arith, c.if-most-eq0.false) in
    let here = c.ready_way.ensures.kept c.args.a 33 c.in_ok-ready.ensures.room in
    on_ok c.ready_way.result
    (way_here 33 c.args.topo.now c.ready_way.new.routers m c.args.most c.args.a c.in-Some.b c.args.packet.now.route c.args.j c.last_hop-last.result c.egress.result _ _
    is here c.last_hop-last.ensures.value c.egress.ensures c.in-Some.ensures.value)
    c.ready_way.ensures.room
