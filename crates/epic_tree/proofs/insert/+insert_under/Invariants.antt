use Rattle.epic_tree.specs.Arena.{height_at}
use Rattle.epic_tree.proofs.insert.+insert_under.Given as goal

abbrev pub decreases-insert_under : goal.decreases-insert_under
decreases-insert_under g l = height_at l.nodes.now l.at
