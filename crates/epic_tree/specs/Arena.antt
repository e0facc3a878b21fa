-- Private: serves proofs of this crate alone; no public contract cites it.
-- Trees in a list of nodes that name each other by their places in it.
use Rattle.std.specs.Prelude.{◌≡◌, ℕ, zero, suc, ◌+◌, ◌==◌, ◌<◌, ◌≤◌, max, if◌then◌else◌, List, length, map, slice_index_or, slice_set}
use Rattle.std.specs.declared.cmp.Ordering.{Ordering}
use Rattle.epic_tree.specs.Sides.{put}
use Rattle.epic_tree.specs.Shapes.{Shape, Tip, Fork, depth, places, count, one, IsBalanced}
use Rattle.epic_tree.specs.declared.arena.Node.{Node}
use Rattle.epic_tree.specs.declared.arena.TheConstants.{NIL, MAX_NODES}

-- the node at a place, and past the end a node of no height
unfoldable pub node_at : List Node → ℕ → Node
node_at nodes at = slice_index_or nodes at (record { left = NIL; right = NIL; height = 0; tag = 0 })

abbrev pub height_at : List Node → ℕ → ℕ
height_at nodes at = (node_at nodes at).height

abbrev pub tags_of : List Node → List ℕ
tags_of nodes = map (λ n. n.tag) nodes

-- the node at a place, with two trees under it
unfoldable pub forked : List Node → ℕ → ℕ → ℕ → Node
forked nodes left at right = record {
  left = left;
  right = right;
  height = max (height_at nodes left) (height_at nodes right) + 1;
  tag = (node_at nodes at).tag;
}

-- the nodes after that
abbrev pub with_fork : List Node → ℕ → ℕ → ℕ → List Node
with_fork nodes left at right = slice_set nodes at (forked nodes left at right)

-- a node at a place i, with what is to hold of the two below it
pub record StandsAt (nodes : List Node) (at i height : ℕ) (before after : Type 0) : Type 0 where
  pub place : at ≡ i
  pub within : i < length nodes
  pub left : before
  pub right : after
  pub high : height_at nodes i ≡ height

-- the tree stands at a place
abbrev pub Stands : List Node → ℕ → Shape → Type 0
Stands nodes at Tip = (at ≡ NIL) × (length nodes ≤ NIL)
Stands nodes at (Fork l i r) =
    StandsAt nodes at i (depth (Fork l i r)) (Stands nodes (node_at nodes i).left l) (Stands nodes (node_at nodes i).right r)

-- what stands at a place, down to a depth
unfoldable pub shape_to : ℕ → List Node → ℕ → Shape
shape_to zero nodes at = Tip
shape_to (suc n) nodes at =
    if at == NIL then Tip else Fork (shape_to n nodes (node_at nodes at).left) at (shape_to n nodes (node_at nodes at).right)

-- what stands at a place
unfoldable pub shape : List Node → ℕ → Shape
shape nodes at = shape_to (height_at nodes at) nodes at

-- a tree stands there, and no place stands twice in it
pub record IsTree (nodes : List Node) (at : ℕ) : Type 0 where
  pub stands : Stands nodes at (shape nodes at)
  pub once : (k : ℕ) → count k (shape nodes at) ≤ 1

-- two trees stand there that share no place, nor have the one between them
pub record AreBeside (nodes : List Node) (left at right : ℕ) : Type 0 where
  pub before : Stands nodes left (shape nodes left)
  pub after : Stands nodes right (shape nodes right)
  pub within : at < length nodes
  pub once : (k : ℕ) → count k (shape nodes left) + one k at + count k (shape nodes right) ≤ 1

-- the nodes of which none is counted stay, and so do all tags
pub record Keeps (counted : ℕ → ℕ) (old new : List Node) : Type 0 where
  pub nodes : (k : ℕ) → counted k ≡ 0 → node_at new k ≡ node_at old k
  pub tags : tags_of new ≡ tags_of old

-- how often a place stands in the two trees and between them
abbrev pub beside_count : List Node → ℕ → ℕ → ℕ → ℕ → ℕ
beside_count nodes left at right k = count k (shape nodes left) + one k at + count k (shape nodes right)

-- what a tree of nodes keeps: it is balanced, and no higher than it has nodes
pub record IsKept (nodes : List Node) (root : ℕ) : Type 0 where
  pub tree : IsTree nodes root
  pub balanced : IsBalanced (shape nodes root)
  pub low : depth (shape nodes root) ≤ length nodes
  pub few : length nodes ≤ MAX_NODES

-- what a tree of nodes keeps, and has, after one more place was put in
pub record IsAdded (side : ℕ → Ordering) (old new : List Node) (root top : ℕ) : Type 0 where
  pub kept : IsKept new top
  pub places : places (shape new top) ≡ put side (length old) (places (shape old root))
  pub len : length new ≡ length old + 1
