use Rattle.std.proofs.Common.{◌<◌, ◌≤◌, arith}
use Rattle.epic_tree.specs.Arena.{height_at, node_at, shape}
use Rattle.epic_tree.proofs.Turning.{is_top, top_left, leant_right_lifted, leant_right_turned, lifted_right_keeps, turned_right_keeps}
use Rattle.epic_tree.proofs.settle.lean_right.Goals as goal

pub read-top-requires : goal.read-top-requires
read-top-requires c = (is_top _ _ _ c.requires.beside.after (omega arith)).within

pub lift_right-requires : goal.lift_right-requires
lift_right-requires c =
    let top = is_top _ _ _ c.requires.beside.after (omega arith) in
    rw c.read-top.ensures (record {
      top_within = top.within;
      within = c.requires.beside.within;
      outer_low = omega arith;
      left_low = omega arith;
      right_low = omega arith;
    })

pub read-mid-requires : goal.read-mid-requires
read-mid-requires c =
    let inner : height_at c.args.nodes.now (node_at c.args.nodes.now c.args.right).right < height_at c.args.nodes.now (node_at c.args.nodes.now c.args.right).left = rw (← c.read-top.ensures) (omega arith) in
    rw c.read-top.ensures (top_left _ _ _ c.requires.beside.after (omega arith) (omega arith)).within

pub turn-requires : goal.turn-requires
turn-requires c =
    let top = is_top _ _ _ c.requires.beside.after (omega arith) in
    let inner : height_at c.args.nodes.now (node_at c.args.nodes.now c.args.right).right < height_at c.args.nodes.now (node_at c.args.nodes.now c.args.right).left = rw (← c.read-top.ensures) (omega arith) in
    let mid = top_left _ _ _ c.requires.beside.after (omega arith) (omega arith) in
    rw (c.read-mid.ensures, c.read-top.ensures) (record {
      within = mid.within;
      before_within = c.requires.beside.within;
      after_within = top.within;
      before_left_low = omega arith;
      before_right_low = omega arith;
      after_left_low = omega arith;
      after_right_low = omega arith;
    })

pub returns-then-height-clause-stands : goal.returns-then-height-clause-stands
returns-then-height-clause-stands c =
    let b = c.requires.beside in
    let low : height_at c.args.nodes.now (node_at c.args.nodes.now c.args.right).left ≤ height_at c.args.nodes.now (node_at c.args.nodes.now c.args.right).right = rw (← c.read-top.ensures) (omega arith) in
    rw (c.lift_right.ensures, c.read-top.ensures)
    (leant_right_lifted c.args.nodes.now c.args.left c.args.at c.args.right _ _ b.before b.after b.within b.once (omega arith) low)

pub returns-then-height-clause-kept : goal.returns-then-height-clause-kept
returns-then-height-clause-kept c =
    rw c.lift_right.ensures
    (lifted_right_keeps c.args.nodes.now _ _ _ c.args.at c.args.right (shape c.args.nodes.now c.args.left) (shape c.args.nodes.now c.args.right) c.requires.beside.after (omega arith))

pub returns-else-height-clause-stands : goal.returns-else-height-clause-stands
returns-else-height-clause-stands c =
    let b = c.requires.beside in
    let low : height_at c.args.nodes.now (node_at c.args.nodes.now c.args.right).right < height_at c.args.nodes.now (node_at c.args.nodes.now c.args.right).left = rw (← c.read-top.ensures) (omega arith) in
    rw (c.turn.ensures, c.read-mid.ensures, c.read-top.ensures)
    (leant_right_turned c.args.nodes.now c.args.left c.args.at c.args.right _ _ b.before b.after b.within b.once (omega arith) low)

pub returns-else-height-clause-kept : goal.returns-else-height-clause-kept
returns-else-height-clause-kept c =
    let low : height_at c.args.nodes.now (node_at c.args.nodes.now c.args.right).right < height_at c.args.nodes.now (node_at c.args.nodes.now c.args.right).left = rw (← c.read-top.ensures) (omega arith) in
    rw (c.turn.ensures, c.read-mid.ensures, c.read-top.ensures)
    (turned_right_keeps c.args.nodes.now _ _ _ _ c.args.at c.args.right (shape c.args.nodes.now c.args.left) (shape c.args.nodes.now c.args.right) c.requires.beside.after (omega arith) (omega arith))
