use Rattle.std.proofs.Common.{ap, refl}
use Rattle.epic_tree.specs.Shapes.{places}
use Rattle.epic_tree.specs.declared.arena.TheConstants.{NIL}
use Rattle.epic_tree.proofs.Adding.{none_kept}
use Rattle.epic_tree.proofs.Standing.{closed}
use Rattle.epic_tree.proofs.tree.Tree.new.Goals as goal

pub invariant_of-result : goal.invariant_of-result
invariant_of-result c = rw c.new.ensures.items none_kept

pub returns-clause-places : goal.returns-clause-places
returns-clause-places c = ap places (closed _ NIL refl)
