-- One step of inserting: a tree that has grown on one side, and its sibling.
use Rattle.std.proofs.Common.{◌≡◌, ◌≢◌, ℕ, ◌+◌, ◌^◌, ◌<◌, ◌≤◌, Bool, true, false, List, Ordering, refl, sym, ap, ◌∙◌, subst, arith, eqb-true}
use Rattle.std.specs.Prelude.{◌==◌}
use Rattle.std.specs.declared.cmp.Ordering.TheVariants.{Less, Equal, Greater}
use Rattle.epic_tree.specs.Shapes.{Shape, Tip, Fork, depth, one, count, IsBalanced, inserted, settled}
use Rattle.epic_tree.specs.Arena.{node_at, height_at, shape, Stands, IsTree, AreBeside, Keeps, beside_count}
use Rattle.epic_tree.specs.declared.arena.Node.{Node}
use Rattle.epic_tree.specs.declared.arena.TheConstants.{NIL}
use Rattle.epic_tree.proofs.ShapeLaws.{inserted_grown, count_inserted}
use Rattle.epic_tree.proofs.Standing.{opened, closed, shape_is, height_is, stands_few, stands_kept, keeps_length, keeps_then, other}

once_by : (b : Bool) (k n : ℕ) (t : Shape) → (k == n) ≡ b → count k t ≤ 1 → count n t ≡ 0 → count k t + one k n ≤ 1
once_by true k n t e once apart =
    let none : count k t ≡ 0 = ap (λ m. count m t) (eqb-true k n e) ∙ apart in rw e (omega arith)
once_by false k n t e once apart = rw e (omega arith)

pub once_with : (k n : ℕ) (t : Shape) → count k t ≤ 1 → count n t ≡ 0 → count k t + one k n ≤ 1
once_with k n t once apart = once_by (k == n) k n t refl once apart

-- a tree into which a place is to go that it doesn't have
pub record IsOpen (fresh : ℕ) (a : List Node) (at : ℕ) : Type 0 where
  pub tree : IsTree a at
  pub some : at ≢ NIL
  pub balanced : IsBalanced (shape a at)
  pub low : depth (shape a at) < 2 ^ 31
  pub apart : count fresh (shape a at) ≡ 0

-- both trees below it are such trees
pub record IsLower (fresh : ℕ) (a : List Node) (at below : ℕ) : Type 0 where
  pub tree : IsTree a below
  pub balanced : IsBalanced (shape a below)
  pub low : depth (shape a below) < 2 ^ 31
  pub apart : count fresh (shape a below) ≡ 0
  pub smaller : height_at a below < height_at a at

pub open_left : (fresh : ℕ) (a : List Node) (at : ℕ) → IsOpen fresh a at → IsLower fresh a at (node_at a at).left
open_left fresh a at h =
    let o = opened a at (shape a at) h.tree.stands h.some in
    let balanced = subst IsBalanced o.is h.balanced in
    let deep = ap depth o.is in
    record {
      tree = record { stands = o.left; once = λ k. omega (arith, ap (count k) o.is, h.tree.once k) };
      balanced = balanced.0;
      low = omega arith;
      apart = omega (arith, ap (count fresh) o.is);
      smaller = o.left_low;
    }

pub open_right : (fresh : ℕ) (a : List Node) (at : ℕ) → IsOpen fresh a at → IsLower fresh a at (node_at a at).right
open_right fresh a at h =
    let o = opened a at (shape a at) h.tree.stands h.some in
    let balanced = subst IsBalanced o.is h.balanced in
    let deep = ap depth o.is in
    record {
      tree = record { stands = o.right; once = λ k. omega (arith, ap (count k) o.is, h.tree.once k) };
      balanced = balanced.1;
      low = omega arith;
      apart = omega (arith, ap (count fresh) o.is);
      smaller = o.right_low;
    }

-- the place is another than that of the node
pub open_other : (fresh : ℕ) (a : List Node) (at : ℕ) → IsOpen fresh a at → at ≢ fresh
open_other fresh a at h =
    let o = opened a at (shape a at) h.tree.stands h.some in
    let apart = other fresh at (omega (arith, ap (count fresh) o.is)) in
    λ e. apart (sym e)

-- after a place went into the tree on the left

pub record HasGrown (side : ℕ → Ordering) (fresh : ℕ) (a b : List Node) (at place : ℕ) : Type 0 where
  pub stands : Stands b place (inserted side fresh (shape a at))
  pub kept : Keeps (λ k. count k (shape a at) + one k fresh) a b

-- what bringing into balance asks for
pub record IsReady (b : List Node) (left at right : ℕ) : Type 0 where
  pub beside : AreBeside b left at right
  pub left_low : height_at b left ≤ 2 ^ 31
  pub right_low : height_at b right ≤ 2 ^ 31

-- the tree that was left alone
still : (side : ℕ → Ordering) (fresh : ℕ) (a b : List Node) (low high place : ℕ) → HasGrown side fresh a b low place → Stands a high (shape a high) → ((k : ℕ) → count k (shape a high) + (count k (shape a low) + one k fresh) ≤ 1) → Stands b high (shape a high)
still side fresh a b low high place h s apart = stands_kept _ a b high (shape a high) h.kept apart s

pub ready_left : (side : ℕ → Ordering) (fresh : ℕ) (a b : List Node) (at place : ℕ) → IsOpen fresh a at → HasGrown side fresh a b (node_at a at).left place → IsReady b place at (node_at a at).right
ready_left side fresh a b at place h g =
    let o = opened a at (shape a at) h.tree.stands h.some in
    let l = shape a (node_at a at).left in
    let r = shape a (node_at a at).right in
    let apart : (k : ℕ) → count k l + one k at + count k r + one k fresh ≤ 1 =
    λ k. omega (arith, ap (count k) o.is, once_with k fresh (shape a at) (h.tree.once k) h.apart) in
    let beside : Stands b (node_at a at).right r = still side fresh a b (node_at a at).left (node_at a at).right place g o.right (λ k. omega (arith, apart k)) in
    let few = stands_few b place _ g.stands in
    let left : shape b place ≡ inserted side fresh l = shape_is b place _ few g.stands in
    let right : shape b (node_at a at).right ≡ r = shape_is b _ _ few beside in
    let balanced = subst IsBalanced o.is h.balanced in
    let grown = inserted_grown side fresh l balanced.0 in
    let deep = ap depth o.is in
    record {
      beside = record {
        before = rw left g.stands;
        after = rw right beside;
        within = omega (arith, keeps_length _ a b g.kept, o.within);
        once = λ k. rw (left, right) (omega (arith, apart k, count_inserted k side fresh l));
      };
      left_low = omega (arith, height_is b place _ g.stands);
      right_low = omega (arith, height_is b _ _ beside);
    }

pub grown_left : (side : ℕ → Ordering) (fresh : ℕ) (a b d : List Node) (at place top : ℕ) → IsOpen fresh a at → HasGrown side fresh a b (node_at a at).left place → side at ≡ Less → Stands d top (settled (shape b place) at (shape b (node_at a at).right)) → Keeps (beside_count b place at (node_at a at).right) b d → HasGrown side fresh a d at top
grown_left side fresh a b d at place top h g e s keeps =
    let o = opened a at (shape a at) h.tree.stands h.some in
    let l = shape a (node_at a at).left in
    let r = shape a (node_at a at).right in
    let apart : (k : ℕ) → count k l + one k at + count k r + one k fresh ≤ 1 =
    λ k. omega (arith, ap (count k) o.is, once_with k fresh (shape a at) (h.tree.once k) h.apart) in
    let beside : Stands b (node_at a at).right r = still side fresh a b (node_at a at).left (node_at a at).right place g o.right (λ k. omega (arith, apart k)) in
    let few = stands_few b place _ g.stands in
    let left : shape b place ≡ inserted side fresh l = shape_is b place _ few g.stands in
    let right : shape b (node_at a at).right ≡ r = shape_is b _ _ few beside in
    let whole : inserted side fresh (shape a at) ≡ settled (inserted side fresh l) at r = ap (inserted side fresh) o.is ∙ rw e refl in
    let less : (k : ℕ) → count k (shape a at) + one k fresh ≡ 0 → (count k l + one k fresh ≡ 0) × (beside_count b place at (node_at a at).right k ≡ 0) =
    λ k z. (omega (arith, ap (count k) o.is), rw (left, right) (omega (arith, ap (count k) o.is, count_inserted k side fresh l))) in
    record {
      stands = rw whole (rw (left, right) at s);
      kept = keeps_then _ _ (λ k. count k (shape a at) + one k fresh) a b d less g.kept keeps;
    }

-- the same on the right

pub ready_right : (side : ℕ → Ordering) (fresh : ℕ) (a b : List Node) (at place : ℕ) → IsOpen fresh a at → HasGrown side fresh a b (node_at a at).right place → IsReady b (node_at a at).left at place
ready_right side fresh a b at place h g =
    let o = opened a at (shape a at) h.tree.stands h.some in
    let l = shape a (node_at a at).left in
    let r = shape a (node_at a at).right in
    let apart : (k : ℕ) → count k l + one k at + count k r + one k fresh ≤ 1 =
    λ k. omega (arith, ap (count k) o.is, once_with k fresh (shape a at) (h.tree.once k) h.apart) in
    let beside : Stands b (node_at a at).left l = still side fresh a b (node_at a at).right (node_at a at).left place g o.left (λ k. omega (arith, apart k)) in
    let few = stands_few b place _ g.stands in
    let right : shape b place ≡ inserted side fresh r = shape_is b place _ few g.stands in
    let left : shape b (node_at a at).left ≡ l = shape_is b _ _ few beside in
    let balanced = subst IsBalanced o.is h.balanced in
    let grown = inserted_grown side fresh r balanced.1 in
    let deep = ap depth o.is in
    record {
      beside = record {
        before = rw left beside;
        after = rw right g.stands;
        within = omega (arith, keeps_length _ a b g.kept, o.within);
        once = λ k. rw (left, right) (omega (arith, apart k, count_inserted k side fresh r));
      };
      left_low = omega (arith, height_is b _ _ beside);
      right_low = omega (arith, height_is b place _ g.stands);
    }

pub grown_right : (side : ℕ → Ordering) (fresh : ℕ) (a b d : List Node) (at place top : ℕ) → IsOpen fresh a at → HasGrown side fresh a b (node_at a at).right place → side at ≡ Greater → Stands d top (settled (shape b (node_at a at).left) at (shape b place)) → Keeps (beside_count b (node_at a at).left at place) b d → HasGrown side fresh a d at top
grown_right side fresh a b d at place top h g e s keeps =
    let o = opened a at (shape a at) h.tree.stands h.some in
    let l = shape a (node_at a at).left in
    let r = shape a (node_at a at).right in
    let apart : (k : ℕ) → count k l + one k at + count k r + one k fresh ≤ 1 =
    λ k. omega (arith, ap (count k) o.is, once_with k fresh (shape a at) (h.tree.once k) h.apart) in
    let beside : Stands b (node_at a at).left l = still side fresh a b (node_at a at).right (node_at a at).left place g o.left (λ k. omega (arith, apart k)) in
    let few = stands_few b place _ g.stands in
    let right : shape b place ≡ inserted side fresh r = shape_is b place _ few g.stands in
    let left : shape b (node_at a at).left ≡ l = shape_is b _ _ few beside in
    let whole : inserted side fresh (shape a at) ≡ settled l at (inserted side fresh r) = ap (inserted side fresh) o.is ∙ rw e refl in
    let less : (k : ℕ) → count k (shape a at) + one k fresh ≡ 0 → (count k r + one k fresh ≡ 0) × (beside_count b (node_at a at).left at place k ≡ 0) =
    λ k z. (omega (arith, ap (count k) o.is), rw (left, right) (omega (arith, ap (count k) o.is, count_inserted k side fresh r))) in
    record {
      stands = rw whole (rw (left, right) at s);
      kept = keeps_then _ _ (λ k. count k (shape a at) + one k fresh) a b d less g.kept keeps;
    }

-- a place stands there already, or no tree does

pub grown_there : (side : ℕ → Ordering) (fresh : ℕ) (a : List Node) (at : ℕ) → IsOpen fresh a at → side at ≡ Equal → Stands a at (inserted side fresh (shape a at))
grown_there side fresh a at h e =
    let o = opened a at (shape a at) h.tree.stands h.some in
    let whole : inserted side fresh (shape a at) ≡ shape a at = ap (inserted side fresh) o.is ∙ rw e refl ∙ sym o.is in
    rw whole h.tree.stands

pub grown_alone : (side : ℕ → Ordering) (fresh : ℕ) (a : List Node) (at : ℕ) → at ≡ NIL → Stands a fresh (Fork Tip fresh Tip) → Stands a fresh (inserted side fresh (shape a at))
grown_alone side fresh a at e s = subst (λ (t : Shape). Stands a fresh (inserted side fresh t)) (sym (closed a at e)) s
