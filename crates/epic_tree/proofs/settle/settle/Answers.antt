use Rattle.std.proofs.Common.{arith}
use Rattle.epic_tree.specs.Arena.{shape}
use Rattle.epic_tree.proofs.Standing.{height_is, with_fork_stands}
use Rattle.epic_tree.proofs.Turning.{settled_left, settled_right, settled_even, with_fork_both}
use Rattle.epic_tree.proofs.settle.settle.Goals as goal

pub returns-then-before-after-clause-stands : goal.returns-then-before-after-clause-stands
returns-then-before-after-clause-stands c =
    let b = c.requires.beside in
    let left = height_is _ _ _ b.before in
    let right = height_is _ _ _ b.after in
    rw (settled_left (shape c.args.nodes.now c.args.left) c.args.at (shape c.args.nodes.now c.args.right) (omega arith)) c.lean_left.ensures.stands

pub returns-then-after-before-clause-stands : goal.returns-then-after-before-clause-stands
returns-then-after-before-clause-stands c =
    let b = c.requires.beside in
    let left = height_is _ _ _ b.before in
    let right = height_is _ _ _ b.after in
    rw (settled_right (shape c.args.nodes.now c.args.left) c.args.at (shape c.args.nodes.now c.args.right) (omega arith)) c.lean_right.ensures.stands

pub returns-else-after-before-clause-stands : goal.returns-else-after-before-clause-stands
returns-else-after-before-clause-stands c =
    let b = c.requires.beside in
    let left = height_is _ _ _ b.before in
    let right = height_is _ _ _ b.after in
    rw (c.fork.ensures, settled_even (shape c.args.nodes.now c.args.left) c.args.at (shape c.args.nodes.now c.args.right) (omega arith) (omega arith))
    (with_fork_stands c.args.nodes.now c.args.left c.args.at c.args.right _ _ b.before b.after b.within b.once)

pub returns-else-after-before-clause-kept : goal.returns-else-after-before-clause-kept
returns-else-after-before-clause-kept c =
    rw c.fork.ensures
    (with_fork_both c.args.nodes.now c.args.left c.args.at c.args.right (shape c.args.nodes.now c.args.left) (shape c.args.nodes.now c.args.right))
