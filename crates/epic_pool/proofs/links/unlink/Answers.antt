-- The new lists, by the two writes of either vector.
use Rattle.std.proofs.Common.{get_or, arith}
use Rattle.epic_pool.proofs.Unlinking.{without_node}
use Rattle.epic_pool.proofs.Writes.{two_writes}
use Rattle.epic_pool.proofs.links.unlink.Goals as goal

pub returns : goal.returns
returns c =
    let r = c.requires.rings in
    let e = r.same_length in
    let node_in = c.requires.inside in
    let before_in = r.prev_inside c.args.node c.requires.inside in
    let after_in = r.next_inside c.args.node c.requires.inside in
    without_node c.args.base c.args.node c.args.next.now c.args.prev.now _ _ r c.requires.node c.requires.inside
    (two_writes c.args.next.now (get_or c.args.prev.now c.args.node 0) (get_or c.args.next.now c.args.node 0) c.args.node c.args.node before_in c.requires.inside)
    (two_writes c.args.prev.now (get_or c.args.next.now c.args.node 0) (get_or c.args.prev.now c.args.node 0) c.args.node c.args.node (omega arith) (omega arith))
