use Rattle.std.proofs.Common.{◌+◌, ◌^◌, ◌<◌, length, arith}
use Rattle.epic_tree.specs.Arena.{with_fork}
use Rattle.epic_tree.proofs.Standing.{length_with_fork, height_below, height_there}
use Rattle.epic_tree.proofs.settle.turn.Goals as goal

pub fork-requires-2-clause-within : goal.fork-requires-2-clause-within
fork-requires-2-clause-within c = rw c.fork.ensures (rw length_with_fork c.requires.after_within)

pub fork-requires-2-clause-left_low : goal.fork-requires-2-clause-left_low
fork-requires-2-clause-left_low c =
    let p = c.args.before in
    rw c.fork.ensures (omega (arith, height_below c.args.nodes.now p.left p.at p.right c.args.after.left (2 ^ 31) c.requires.before_within (omega arith) (omega arith) (omega arith)))

pub fork-requires-2-clause-right_low : goal.fork-requires-2-clause-right_low
fork-requires-2-clause-right_low c =
    let p = c.args.before in
    rw c.fork.ensures (omega (arith, height_below c.args.nodes.now p.left p.at p.right c.args.after.right (2 ^ 31) c.requires.before_within (omega arith) (omega arith) (omega arith)))

pub fork-requires-3-clause-within : goal.fork-requires-3-clause-within
fork-requires-3-clause-within c = rw (c.fork-2.ensures, c.fork.ensures) (rw (length_with_fork, length_with_fork) c.requires.within)

pub fork-requires-3-clause-left_low : goal.fork-requires-3-clause-left_low
fork-requires-3-clause-left_low c =
    let a = c.args.nodes.now in
    let p = c.args.before in
    let q = c.args.after in
    let b = with_fork a p.left p.at p.right in
    let left = height_below a p.left p.at p.right q.left (2 ^ 31) c.requires.before_within (omega arith) (omega arith) (omega arith) in
    let right = height_below a p.left p.at p.right q.right (2 ^ 31) c.requires.before_within (omega arith) (omega arith) (omega arith) in
    let there = height_there a p.left p.at p.right (2 ^ 31) c.requires.before_within (omega arith) (omega arith) in
    let within : q.at < length b = rw length_with_fork c.requires.after_within in
    rw (c.fork-2.ensures, c.fork.ensures) (omega (arith, height_below b q.left q.at q.right p.at (2 ^ 31 + 1) within (omega arith) (omega arith) (omega arith)))

pub fork-requires-3-clause-right_low : goal.fork-requires-3-clause-right_low
fork-requires-3-clause-right_low c =
    let a = c.args.nodes.now in
    let p = c.args.before in
    let q = c.args.after in
    let b = with_fork a p.left p.at p.right in
    let left = height_below a p.left p.at p.right q.left (2 ^ 31) c.requires.before_within (omega arith) (omega arith) (omega arith) in
    let right = height_below a p.left p.at p.right q.right (2 ^ 31) c.requires.before_within (omega arith) (omega arith) (omega arith) in
    let within : q.at < length b = rw length_with_fork c.requires.after_within in
    rw (c.fork-2.ensures, c.fork.ensures) (omega (arith, height_there b q.left q.at q.right (2 ^ 31 + 1) within (omega arith) (omega arith)))
