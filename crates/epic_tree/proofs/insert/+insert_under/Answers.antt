use Rattle.std.proofs.Common.{◌<◌, sym, arith}
use Rattle.epic_tree.specs.Sides.{by_tag}
use Rattle.epic_tree.specs.Arena.{node_at, height_at, tags_of}
use Rattle.epic_tree.proofs.Standing.{opened}
use Rattle.epic_tree.proofs.Growing.{IsOpen, IsLower, HasGrown, open_left, open_right, open_other, ready_left, ready_right, grown_left, grown_right, grown_there, grown_alone}
use Rattle.epic_tree.proofs.insert.+insert_under.Goals as goal

pub returns-then-at-eq-NIL-clause-stands : goal.returns-then-at-eq-NIL-clause-stands
returns-then-at-eq-NIL-clause-stands g t c = grown_alone _ c.args.fresh c.args.nodes.now c.args.at c.if-at-eq-NIL.true c.requires.fresh

pub read-node-requires : goal.read-node-requires
read-node-requires g t c = (opened _ _ _ c.requires.tree.stands c.if-at-eq-NIL.false).within

pub side_at-requires : goal.side_at-requires
side_at-requires g t c =
    let r = c.requires in
    let within = (opened _ _ _ r.tree.stands c.if-at-eq-NIL.false).within in
    let is : IsOpen c.args.fresh c.args.nodes.now c.args.at = record { tree = r.tree; some = c.if-at-eq-NIL.false; balanced = r.balanced; low = r.low; apart = r.apart } in
    record { within = within; known = r.known _ within (open_other _ _ _ is) }

pub insert_under-left-requires : goal.insert_under-left-requires
insert_under-left-requires g t c κs within =
    let r = c.requires in
    let is : IsOpen c.args.fresh c.args.nodes.now c.args.at = record { tree = r.tree; some = c.if-at-eq-NIL.false; balanced = r.balanced; low = r.low; apart = r.apart } in
    let low = open_left c.args.fresh c.args.nodes.now c.args.at is in
    let below : IsLower c.args.fresh c.args.nodes.now c.args.at c.read-node.result.left = rw c.read-node.ensures low in
    let smaller : height_at c.args.nodes.now c.read-node.result.left < height_at c.args.nodes.now c.args.at = below.smaller in
    (omega (arith, c.decreases, smaller), (within, (below.tree, (below.balanced, (below.low, (r.fresh, (below.apart, r.known)))))))

pub settle-requires : goal.settle-requires
settle-requires g t c =
    let r = c.requires in
    let a = c.args.nodes.now in
    let is : IsOpen c.args.fresh a c.args.at = record { tree = r.tree; some = c.if-at-eq-NIL.false; balanced = r.balanced; low = r.low; apart = r.apart } in
    let grown : HasGrown (by_tag (tags_of a) c.args.tag (g.S.Aim.side c.args.aim.now)) c.args.fresh a c.insert_under-left.new.nodes (node_at a c.args.at).left c.insert_under-left.result =
    rw (← c.read-node.ensures) (record { stands = c.insert_under-left.ensures.stands; kept = c.insert_under-left.ensures.kept }) in
    let ready = ready_left _ _ _ _ c.args.at _ is grown in
    rw c.read-node.ensures (record { beside = ready.beside; left_low = ready.left_low; right_low = ready.right_low })

pub insert_under-right-requires : goal.insert_under-right-requires
insert_under-right-requires g t c κs within =
    let r = c.requires in
    let is : IsOpen c.args.fresh c.args.nodes.now c.args.at = record { tree = r.tree; some = c.if-at-eq-NIL.false; balanced = r.balanced; low = r.low; apart = r.apart } in
    let low = open_right c.args.fresh c.args.nodes.now c.args.at is in
    let below : IsLower c.args.fresh c.args.nodes.now c.args.at c.read-node.result.right = rw c.read-node.ensures low in
    let smaller : height_at c.args.nodes.now c.read-node.result.right < height_at c.args.nodes.now c.args.at = below.smaller in
    (omega (arith, c.decreases, smaller), (within, (below.tree, (below.balanced, (below.low, (r.fresh, (below.apart, r.known)))))))

pub settle-requires-in-Greater : goal.settle-requires-in-Greater
settle-requires-in-Greater g t c =
    let r = c.requires in
    let a = c.args.nodes.now in
    let is : IsOpen c.args.fresh a c.args.at = record { tree = r.tree; some = c.if-at-eq-NIL.false; balanced = r.balanced; low = r.low; apart = r.apart } in
    let grown : HasGrown (by_tag (tags_of a) c.args.tag (g.S.Aim.side c.args.aim.now)) c.args.fresh a c.insert_under-right.new.nodes (node_at a c.args.at).right c.insert_under-right.result =
    rw (← c.read-node.ensures) (record { stands = c.insert_under-right.ensures.stands; kept = c.insert_under-right.ensures.kept }) in
    let ready = ready_right _ _ _ _ c.args.at _ is grown in
    rw c.read-node.ensures (record { beside = ready.beside; left_low = ready.left_low; right_low = ready.right_low })

pub returns-in-Less : goal.returns-in-Less
returns-in-Less g t c =
    let r = c.requires in
    let a = c.args.nodes.now in
    let is : IsOpen c.args.fresh a c.args.at = record { tree = r.tree; some = c.if-at-eq-NIL.false; balanced = r.balanced; low = r.low; apart = r.apart } in
    let grown : HasGrown (by_tag (tags_of a) c.args.tag (g.S.Aim.side c.args.aim.now)) c.args.fresh a c.insert_under-left.new.nodes (node_at a c.args.at).left c.insert_under-left.result =
    rw (← c.read-node.ensures) (record { stands = c.insert_under-left.ensures.stands; kept = c.insert_under-left.ensures.kept }) in
    let whole = grown_left _ _ _ _ c.settle.new.nodes c.args.at _ c.settle.result is grown (sym c.in-Less.ensures) (rw c.read-node.ensures at c.settle.ensures.stands) (rw c.read-node.ensures at c.settle.ensures.kept) in
    record { stands = whole.stands; kept = whole.kept }

pub returns-in-Equal-clause-stands : goal.returns-in-Equal-clause-stands
returns-in-Equal-clause-stands g t c =
    let r = c.requires in
    let is : IsOpen c.args.fresh c.args.nodes.now c.args.at = record { tree = r.tree; some = c.if-at-eq-NIL.false; balanced = r.balanced; low = r.low; apart = r.apart } in
    grown_there _ c.args.fresh c.args.nodes.now c.args.at is (sym c.in-Equal.ensures)

pub returns-in-Greater : goal.returns-in-Greater
returns-in-Greater g t c =
    let r = c.requires in
    let a = c.args.nodes.now in
    let is : IsOpen c.args.fresh a c.args.at = record { tree = r.tree; some = c.if-at-eq-NIL.false; balanced = r.balanced; low = r.low; apart = r.apart } in
    let grown : HasGrown (by_tag (tags_of a) c.args.tag (g.S.Aim.side c.args.aim.now)) c.args.fresh a c.insert_under-right.new.nodes (node_at a c.args.at).right c.insert_under-right.result =
    rw (← c.read-node.ensures) (record { stands = c.insert_under-right.ensures.stands; kept = c.insert_under-right.ensures.kept }) in
    let whole = grown_right _ _ _ _ c.settle-in-Greater.new.nodes c.args.at _ c.settle-in-Greater.result is grown (sym c.in-Greater.ensures) (rw c.read-node.ensures at c.settle-in-Greater.ensures.stands) (rw c.read-node.ensures at c.settle-in-Greater.ensures.kept) in
    record { stands = whole.stands; kept = whole.kept }
