-- Private: serves proofs of this crate alone; no public contract cites it.
-- What turning does to a list of nodes.
use Rattle.std.specs.Prelude.{ℕ, List}
use Rattle.epic_tree.specs.Arena.{with_fork}
use Rattle.epic_tree.specs.declared.arena.Node.{Node}
use Rattle.epic_tree.specs.declared.settle.Pair.{Pair}

-- the nodes with a tree of two trees, and over it a tree of that and another, on the right
unfoldable pub lifted_left : List Node → ℕ → ℕ → Pair → List Node
lifted_left nodes outer top pair = with_fork (with_fork nodes pair.left pair.at pair.right) outer top pair.at

-- the same on the left
unfoldable pub lifted_right : List Node → Pair → ℕ → ℕ → List Node
lifted_right nodes pair top outer = with_fork (with_fork nodes pair.left pair.at pair.right) pair.at top outer

-- the nodes with a tree of each pair, and one of both round a place
unfoldable pub turned : List Node → Pair → ℕ → Pair → List Node
turned nodes before at after =
    with_fork (with_fork (with_fork nodes before.left before.at before.right) after.left after.at after.right) before.at at after.at
