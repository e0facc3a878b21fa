use Rattle.epic_tree.specs.Sides.{by_tag}
use Rattle.epic_tree.specs.Arena.{height_at, tags_of}
use Rattle.epic_tree.proofs.Ways.{IsOnWay}
use Rattle.epic_tree.proofs.search.find_under.Given as goal

abbrev pub invariant-loop-at : goal.invariant-loop-at
invariant-loop-at g l = IsOnWay (by_tag (tags_of l.nodes) l.tag (g.S.Aim.side l.aim)) l.nodes l.root l.at

abbrev pub decreases-loop-at : goal.decreases-loop-at
decreases-loop-at g l = height_at l.nodes l.at
