use Rattle.std.proofs.Common.{refl, sym, arith}
use Rattle.epic_tree.proofs.Standing.{opened}
use Rattle.epic_tree.proofs.Ways.{go_left, go_right, stop, end}
use Rattle.epic_tree.proofs.search.find_under.Goals as goal

pub loop-at-init : goal.loop-at-init
loop-at-init g c = record { stands = c.requires.stands; same = refl }

pub read-node-requires : goal.read-node-requires
read-node-requires g c = (opened _ _ _ c.loop-at.invariant.stands c.loop-at-test.true).within

pub side_at-requires : goal.side_at-requires
side_at-requires g c =
    let within = (opened _ _ _ c.loop-at.invariant.stands c.loop-at-test.true).within in
    record { within = within; known = c.requires.known _ within }

pub loop-at-smaller-in-Less : goal.loop-at-smaller-in-Less
loop-at-smaller-in-Less g c =
    let low = (opened _ _ _ c.loop-at.invariant.stands c.loop-at-test.true).left_low in rw c.read-node.ensures low

pub loop-at-smaller : goal.loop-at-smaller
loop-at-smaller g c =
    let low = (opened _ _ _ c.loop-at.invariant.stands c.loop-at-test.true).right_low in rw c.read-node.ensures low

pub loop-at-preserved-in-Less : goal.loop-at-preserved-in-Less
loop-at-preserved-in-Less g c =
    rw c.read-node.ensures (go_left _ _ _ _ c.loop-at.invariant c.loop-at-test.true (sym c.in-Less.ensures))

pub loop-at-preserved : goal.loop-at-preserved
loop-at-preserved g c =
    rw c.read-node.ensures (go_right _ _ _ _ c.loop-at.invariant c.loop-at-test.true (sym c.in-Greater.ensures))

pub returns-in-Equal : goal.returns-in-Equal
returns-in-Equal g c =
    rw (← c.tag-tag.ensures) (sym (stop _ _ _ _ c.loop-at.invariant c.loop-at-test.true (sym c.in-Equal.ensures)))

pub returns : goal.returns
returns g c = rw (← c.tag-tag.ensures) (sym (end _ _ _ _ c.loop-at.invariant (omega arith)))
