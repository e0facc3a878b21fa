use Rattle.std.proofs.Common.{◌^◌, arith}
use Rattle.epic_tree.proofs.Standing.{length_with_fork, height_below, height_there}
use Rattle.epic_tree.proofs.settle.lift_left.Goals as goal

pub fork-requires-2-clause-within : goal.fork-requires-2-clause-within
fork-requires-2-clause-within c = rw c.fork.ensures (rw length_with_fork c.requires.top_within)

pub fork-requires-2-clause-left_low : goal.fork-requires-2-clause-left_low
fork-requires-2-clause-left_low c =
    let p = c.args.pair in
    rw c.fork.ensures (omega (arith, height_below c.args.nodes.now p.left p.at p.right c.args.outer (2 ^ 31) c.requires.within (omega arith) (omega arith) (omega arith)))

pub fork-requires-2-clause-right_low : goal.fork-requires-2-clause-right_low
fork-requires-2-clause-right_low c =
    let p = c.args.pair in
    rw c.fork.ensures (omega (arith, height_there c.args.nodes.now p.left p.at p.right (2 ^ 31) c.requires.within (omega arith) (omega arith)))
