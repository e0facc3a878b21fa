-- Trees that stand in a list of nodes, and what writing a node does to them.
use Rattle.std.proofs.Common.{◌≡◌, ◌≢◌, ℕ, zero, suc, ◌+◌, ◌<◌, ◌≤◌, max, Bool, true, false, cond, List, [], ◌∷◌, length, set, get_or, refl, sym, ap, ◌∙◌, subst, arith, eqb-true, eq-eqb, get_or-set_same, get_or-set_other}
use Rattle.std.specs.Prelude.{◌==◌, slice_index}
use Rattle.std.proofs.lemmas.Bool.Decides.{nat_tests}
use Rattle.std.proofs.lemmas.List.{get_or_past, length-map}
use Rattle.std.proofs.lemmas.Bool.{eqb-false}
use Rattle.epic_tree.specs.Shapes.{Shape, Tip, Fork, depth, one, count}
use Rattle.epic_tree.specs.Arena.{node_at, height_at, tags_of, forked, with_fork, Stands, shape_to, shape, Keeps}
use Rattle.epic_tree.specs.declared.arena.Node.{Node}
use Rattle.epic_tree.specs.declared.arena.TheConstants.{NIL}

pub one_same : (k i : ℕ) → k ≡ i → one k i ≡ 1
one_same k i e = ap (λ b. cond b 1 0) (eq-eqb k i e)

one_other : (b : Bool) (k i : ℕ) → (k == i) ≡ b → cond {A = ℕ} b 1 0 ≡ 0 → k ≢ i
one_other true k i e h = absurd (omega arith)
one_other false k i e h = eqb-false k i e

pub other : (k i : ℕ) → one k i ≡ 0 → k ≢ i
other k i h = one_other (k == i) k i refl h

pub none_past : (a : List Node) (at : ℕ) → length a ≤ at → height_at a at ≡ 0
unfolding node_at
none_past a at h = ap (λ n. n.height) (get_or_past a at _ h)

-- the height that a node keeps is that of the tree
pub height_is : (a : List Node) (at : ℕ) (t : Shape) → Stands a at t → height_at a at ≡ depth t
height_is a at Tip h = none_past a at (omega arith)
height_is a at (Fork l i r) h = ap (height_at a) h.place ∙ h.high

not_nil : (at n : ℕ) → at < n → n ≤ NIL → (at == NIL) ≡ false
not_nil at n h k = grind (arith, nat_tests)

shape_to_is : (n : ℕ) (a : List Node) (at : ℕ) (t : Shape) → length a ≤ NIL → depth t ≤ n → Stands a at t → shape_to n a at ≡ t
unfolding shape_to
shape_to_is zero a at Tip few d h = refl
shape_to_is zero a at (Fork l i r) few d h = absurd (omega arith)
shape_to_is (suc n) a at Tip few d h = rw (eq-eqb at NIL h.0) refl
shape_to_is (suc n) a at (Fork l i r) few d h =
    let some = not_nil at (length a) (omega arith) few in
    let before = shape_to_is n a (node_at a i).left l few (omega arith) h.left in
    let after = shape_to_is n a (node_at a i).right r few (omega arith) h.right in
    rw (some, h.place, before, after) refl

pub shape_is : (a : List Node) (at : ℕ) (t : Shape) → length a ≤ NIL → Stands a at t → shape a at ≡ t
unfolding shape
shape_is a at t few h = shape_to_is (height_at a at) a at t few (omega (arith, height_is a at t h)) h

-- keeping nodes

pub keeps_length : (f : ℕ → ℕ) (a b : List Node) → Keeps f a b → length b ≡ length a
keeps_length f a b h = sym (length-map b (λ n. n.tag)) ∙ ap length h.tags ∙ length-map a (λ n. n.tag)

pub keeps_all : (f : ℕ → ℕ) (a : List Node) → Keeps f a a
keeps_all f a = record { nodes = λ k h. refl; tags = refl }

pub keeps_then : (f g h : ℕ → ℕ) (a b c : List Node) → ((k : ℕ) → h k ≡ 0 → (f k ≡ 0) × (g k ≡ 0)) → Keeps f a b → Keeps g b c → Keeps h a c
keeps_then f g h a b c less p q = record {
  nodes = λ k e. q.nodes k (less k e).1 ∙ p.nodes k (less k e).0;
  tags = q.tags ∙ p.tags;
}

-- a tree none of whose places is counted stays
pub stands_kept : (f : ℕ → ℕ) (a b : List Node) (at : ℕ) (t : Shape) → Keeps f a b → ((k : ℕ) → count k t + f k ≤ 1) → Stands a at t → Stands b at t
stands_kept f a b at Tip keeps apart h = (h.0, omega (arith, keeps_length f a b keeps))
stands_kept f a b at (Fork l i r) keeps apart h =
    let here = one_same i i refl in
    let same : node_at b i ≡ node_at a i = keeps.nodes i (omega (arith, apart i)) in
    record {
      place = h.place;
      within = omega (arith, keeps_length f a b keeps);
      left = subst (λ (n : Node). Stands b n.left l) (sym same) (stands_kept f a b (node_at a i).left l keeps (λ k. omega (arith, apart k)) h.left);
      right = subst (λ (n : Node). Stands b n.right r) (sym same) (stands_kept f a b (node_at a i).right r keeps (λ k. omega (arith, apart k)) h.right);
      high = ap (λ (n : Node). n.height) same ∙ h.high;
    }

-- writing a node

pub node_at-with_fork : (a : List Node) (left at right : ℕ) → at < length a → node_at (with_fork a left at right) at ≡ forked a left at right
unfolding node_at
node_at-with_fork a left at right h = get_or-set_same a at _ _ h

node_at-with_fork_other : (a : List Node) (left at right k : ℕ) → k ≢ at → node_at (with_fork a left at right) k ≡ node_at a k
unfolding node_at
node_at-with_fork_other a left at right k h = get_or-set_other a at k _ _ h

map-set : (a : List Node) (i : ℕ) (n : Node) → tags_of (set a i n) ≡ set (tags_of a) i n.tag
map-set [] i n = refl
map-set (x ∷ xs) zero n = refl
map-set (x ∷ xs) (suc i) n = ap (λ l. x.tag ∷ l) (map-set xs i n)

tags-set : (a : List Node) (i : ℕ) (n d : Node) → n.tag ≡ (get_or a i d).tag → tags_of (set a i n) ≡ tags_of a
tags-set [] i n d h = refl
tags-set (x ∷ xs) zero n d h = ap (λ t. t ∷ tags_of xs) h
tags-set (x ∷ xs) (suc i) n d h = ap (λ l. x.tag ∷ l) (tags-set xs i n d h)

pub with_fork_keeps : (a : List Node) (left at right : ℕ) → Keeps (λ k. one k at) a (with_fork a left at right)
unfolding forked node_at
with_fork_keeps a left at right = record {
  nodes = λ k h. node_at-with_fork_other a left at right k (other k at h);
  tags = tags-set a at (forked a left at right) _ refl;
}

pub with_fork_stands : (a : List Node) (left at right : ℕ) (l r : Shape) → Stands a left l → Stands a right r → at < length a → ((k : ℕ) → count k l + one k at + count k r ≤ 1) → Stands (with_fork a left at right) at (Fork l at r)
unfolding forked
with_fork_stands a left at right l r hl hr within once =
    let b = with_fork a left at right in
    let keeps = with_fork_keeps a left at right in
    let node : node_at b at ≡ forked a left at right = node_at-with_fork a left at right within in
    record {
      place = refl;
      within = omega (arith, keeps_length _ a b keeps);
      left = subst (λ (n : Node). Stands b n.left l) (sym node) (stands_kept _ a b left l keeps (λ k. omega (arith, once k)) hl);
      right = subst (λ (n : Node). Stands b n.right r) (sym node) (stands_kept _ a b right r keeps (λ k. omega (arith, once k)) hr);
      high = ap (λ (n : Node). n.height) node ∙ omega (arith, height_is a left l hl, height_is a right r hr);
    }

height_by : (a : List Node) (left at right k : ℕ) (b : Bool) → (k == at) ≡ b → at < length a → height_at (with_fork a left at right) k ≤ max (height_at a k) (max (height_at a left) (height_at a right) + 1)
unfolding forked
height_by a left at right k true e within =
    let same : k ≡ at = eqb-true k at e in
    let high = ap (λ (n : Node). n.height) (node_at-with_fork a left at right within) in
    rw same (omega (arith, high))
height_by a left at right k false e within =
    let high = ap (λ (n : Node). n.height) (node_at-with_fork_other a left at right k (eqb-false k at e)) in
    omega (arith, high)

-- no node becomes higher than it was, or than the one that is written
pub height-with_fork : (a : List Node) (left at right k : ℕ) → at < length a → height_at (with_fork a left at right) k ≤ max (height_at a k) (max (height_at a left) (height_at a right) + 1)
height-with_fork a left at right k within = height_by a left at right k (k == at) refl within

pub length_with_fork : (a : List Node) (left at right : ℕ) → length (with_fork a left at right) ≡ length a
length_with_fork a left at right = keeps_length _ a _ (with_fork_keeps a left at right)

-- a bound on heights after a node is written
pub height_below : (a : List Node) (left at right k n : ℕ) → at < length a → height_at a k ≤ n → height_at a left + 1 ≤ n → height_at a right + 1 ≤ n → height_at (with_fork a left at right) k ≤ n
height_below a left at right k n within h l r = omega (arith, height-with_fork a left at right k within)

pub height_written : (a : List Node) (left at right : ℕ) → at < length a → height_at (with_fork a left at right) at ≡ max (height_at a left) (height_at a right) + 1
unfolding forked
height_written a left at right within = ap (λ (n : Node). n.height) (node_at-with_fork a left at right within)

-- the same at the node that is written
pub height_there : (a : List Node) (left at right n : ℕ) → at < length a → height_at a left + 1 ≤ n → height_at a right + 1 ≤ n → height_at (with_fork a left at right) at ≤ n
height_there a left at right n within l r = omega (arith, height_written a left at right within)

pub tag_at : (a : List Node) (at : ℕ) → at < length a → slice_index (tags_of a) at ≡ (node_at a at).tag
unfolding node_at
tag_at [] at h = absurd (omega arith)
tag_at (x ∷ xs) zero h = refl
tag_at (x ∷ xs) (suc n) h = tag_at xs n (omega arith)

pub stands_few : (a : List Node) (at : ℕ) (t : Shape) → Stands a at t → length a ≤ NIL
stands_few a at Tip h = h.1
stands_few a at (Fork l i r) h = stands_few a (node_at a i).left l h.left

-- the tree at a place, as its node and the two trees below it
pub record IsOpened (a : List Node) (at : ℕ) (t : Shape) : Type 0 where
  pub within : at < length a
  pub is : t ≡ Fork (shape a (node_at a at).left) at (shape a (node_at a at).right)
  pub left : Stands a (node_at a at).left (shape a (node_at a at).left)
  pub right : Stands a (node_at a at).right (shape a (node_at a at).right)
  pub left_low : height_at a (node_at a at).left < height_at a at
  pub right_low : height_at a (node_at a at).right < height_at a at

pub opened : (a : List Node) (at : ℕ) (t : Shape) → Stands a at t → at ≢ NIL → IsOpened a at t
opened a at Tip h some = absurd (some h.0)
opened a at (Fork l i r) h some =
    let few = stands_few a (node_at a i).left l h.left in
    let left = shape_is a (node_at a i).left l few h.left in
    let right = shape_is a (node_at a i).right r few h.right in
    let left_high = height_is a (node_at a i).left l h.left in
    let right_high = height_is a (node_at a i).right r h.right in
    let here = h.high in
    rw h.place (record {
      within = h.within;
      is = rw (left, right) refl;
      left = rw left h.left;
      right = rw right h.right;
      left_low = omega arith;
      right_low = omega arith;
    })

closed_to : (n : ℕ) (a : List Node) (at : ℕ) → at ≡ NIL → shape_to n a at ≡ Tip
unfolding shape_to
closed_to zero a at e = refl
closed_to (suc n) a at e = rw (eq-eqb at NIL e) refl

-- no tree stands at the place of no node
pub closed : (a : List Node) (at : ℕ) → at ≡ NIL → shape a at ≡ Tip
unfolding shape
closed a at e = closed_to (height_at a at) a at e
