-- The way down a tree of nodes.
use Rattle.std.proofs.Common.{◌≡◌, ◌≢◌, ℕ, List, Some, None, Ordering, refl, ap, ◌∙◌}
use Rattle.std.specs.declared.cmp.Ordering.TheVariants.{Less, Equal, Greater}
use Rattle.epic_tree.specs.Shapes.{sought}
use Rattle.epic_tree.specs.Arena.{node_at, shape, Stands}
use Rattle.epic_tree.specs.declared.arena.Node.{Node}
use Rattle.epic_tree.specs.declared.arena.TheConstants.{NIL}
use Rattle.epic_tree.proofs.Standing.{opened, closed}

-- what is sought from the root is sought from this place
pub record IsOnWay (side : ℕ → Ordering) (a : List Node) (root at : ℕ) : Type 0 where
  pub stands : Stands a at (shape a at)
  pub same : sought side (shape a root) ≡ sought side (shape a at)

pub go_left : (side : ℕ → Ordering) (a : List Node) (root at : ℕ) → IsOnWay side a root at → at ≢ NIL → side at ≡ Less → IsOnWay side a root (node_at a at).left
go_left side a root at w some e =
    let o = opened a at (shape a at) w.stands some in
    let step : sought side (shape a at) ≡ sought side (shape a (node_at a at).left) = ap (sought side) o.is ∙ rw e refl in
    record { stands = o.left; same = w.same ∙ step }

pub go_right : (side : ℕ → Ordering) (a : List Node) (root at : ℕ) → IsOnWay side a root at → at ≢ NIL → side at ≡ Greater → IsOnWay side a root (node_at a at).right
go_right side a root at w some e =
    let o = opened a at (shape a at) w.stands some in
    let step : sought side (shape a at) ≡ sought side (shape a (node_at a at).right) = ap (sought side) o.is ∙ rw e refl in
    record { stands = o.right; same = w.same ∙ step }

pub stop : (side : ℕ → Ordering) (a : List Node) (root at : ℕ) → IsOnWay side a root at → at ≢ NIL → side at ≡ Equal → sought side (shape a root) ≡ Some at
stop side a root at w some e =
    let o = opened a at (shape a at) w.stands some in
    let step : sought side (shape a at) ≡ Some at = ap (sought side) o.is ∙ rw e refl in
    w.same ∙ step

pub end : (side : ℕ → Ordering) (a : List Node) (root at : ℕ) → IsOnWay side a root at → at ≡ NIL → sought side (shape a root) ≡ None
end side a root at w e = w.same ∙ ap (sought side) (closed a at e)
