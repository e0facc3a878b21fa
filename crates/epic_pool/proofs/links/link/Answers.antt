-- The new lists, by the two writes of either vector.
use Rattle.std.proofs.Common.{get_or, arith}
use Rattle.epic_pool.proofs.Linking.{linked}
use Rattle.epic_pool.proofs.Writes.{two_writes}
use Rattle.epic_pool.proofs.links.link.Goals as goal

pub returns : goal.returns
returns c =
    let r = c.requires.rings in
    let h = r.heads in
    let e = r.same_length in
    let head_in = c.requires.head in
    let node_in = c.requires.inside in
    let last_in = r.prev_inside c.args.head (omega arith) in
    linked c.args.base c.args.head c.args.node c.args.next.now c.args.prev.now _ _ r c.requires.head c.requires.node c.requires.inside c.requires.alone
    (two_writes c.args.next.now (get_or c.args.prev.now c.args.head 0) c.args.node c.args.node c.args.head last_in c.requires.inside)
    (two_writes c.args.prev.now c.args.node (get_or c.args.prev.now c.args.head 0) c.args.head c.args.node (omega arith) (omega arith))
