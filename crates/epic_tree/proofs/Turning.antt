-- What a turn leaves: the tree that was brought into balance.
use Rattle.std.proofs.Common.{◌≡◌, ℕ, ◌+◌, ◌<◌, ◌≤◌, true, false, List, length, refl, sym, subst, arith}
use Rattle.std.specs.Prelude.{nat_lt, nat_le}
use Rattle.std.proofs.lemmas.Bool.Decides.{nat_tests}
use Rattle.epic_tree.specs.Shapes.{Shape, Tip, Fork, depth, one, count, leant_left, leant_right, settled}
use Rattle.epic_tree.specs.Arena.{node_at, height_at, with_fork, Stands, Keeps}
use Rattle.epic_tree.specs.Turned.{lifted_left, lifted_right, turned}
use Rattle.epic_tree.specs.declared.arena.Node.{Node}
use Rattle.epic_tree.proofs.Standing.{height_is, keeps_then, stands_kept, length_with_fork, with_fork_keeps, with_fork_stands}

-- a node of some height: it is there, and both trees under it are lower
pub record IsTop (a : List Node) (at : ℕ) : Type 0 where
  pub within : at < length a
  pub left_low : height_at a (node_at a at).left < height_at a at
  pub right_low : height_at a (node_at a at).right < height_at a at

pub is_top : (a : List Node) (at : ℕ) (t : Shape) → Stands a at t → 0 < height_at a at → IsTop a at
is_top a at Tip h high = absurd (omega (arith, height_is a at Tip h))
is_top a at (Fork l i r) h high =
    let left = height_is a (node_at a i).left l h.left in
    let right = height_is a (node_at a i).right r h.right in
    let here = h.high in
    rw h.place (record { within = h.within; left_low = omega arith; right_low = omega arith })

-- the tree on the right of the node
pub right_stands : (a : List Node) (at : ℕ) (t : Shape) → Stands a at t → 0 < height_at a at → (r : Shape) × Stands a (node_at a at).right r
right_stands a at Tip h high = absurd (omega (arith, height_is a at Tip h))
right_stands a at (Fork l i r) h high = rw h.place (r, h.right)

pub left_stands : (a : List Node) (at : ℕ) (t : Shape) → Stands a at t → 0 < height_at a at → (l : Shape) × Stands a (node_at a at).left l
left_stands a at Tip h high = absurd (omega (arith, height_is a at Tip h))
left_stands a at (Fork l i r) h high = rw h.place (l, h.left)

-- one tree comes on top

lifted_left_stands : (a : List Node) (x i y j z : ℕ) (p q r : Shape) → Stands a x p → Stands a y q → Stands a z r → j < length a → i < length a → ((k : ℕ) → count k p + one k j + count k q + one k i + count k r ≤ 1) → Stands (lifted_left a x j (record { left = y; at = i; right = z })) j (Fork p j (Fork q i r))
unfolding lifted_left
lifted_left_stands a x i y j z p q r hp hq hr wj wi once =
    let b = with_fork a y i z in
    let keeps = with_fork_keeps a y i z in
    with_fork_stands b x j i p (Fork q i r) (stands_kept _ a b x p keeps (λ k. omega (arith, once k)) hp)
    (with_fork_stands a y i z q r hq hr wi (λ k. omega (arith, once k))) (rw length_with_fork wj) (λ k. omega (arith, once k))

lifted_right_stands : (a : List Node) (x i y j z : ℕ) (l p q : Shape) → Stands a x l → Stands a y p → Stands a z q → j < length a → i < length a → ((k : ℕ) → count k l + one k i + count k p + one k j + count k q ≤ 1) → Stands (lifted_right a (record { left = x; at = i; right = y }) j z) j (Fork (Fork l i p) j q)
unfolding lifted_right
lifted_right_stands a x i y j z l p q hl hp hq wj wi once =
    let b = with_fork a x i y in
    let keeps = with_fork_keeps a x i y in
    with_fork_stands b i j z (Fork l i p) q (with_fork_stands a x i y l p hl hp wi (λ k. omega (arith, once k)))
    (stands_kept _ a b z q keeps (λ k. omega (arith, once k)) hq) (rw length_with_fork wj) (λ k. omega (arith, once k))

turned_stands : (a : List Node) (w i x m y j z : ℕ) (p q r s : Shape) → Stands a w p → Stands a x q → Stands a y r → Stands a z s → i < length a → m < length a → j < length a → ((k : ℕ) → count k p + one k i + count k q + one k m + count k r + one k j + count k s ≤ 1) → Stands (turned a (record { left = w; at = i; right = x }) m (record { left = y; at = j; right = z })) m (Fork (Fork p i q) m (Fork r j s))
unfolding turned
turned_stands a w i x m y j z p q r s hp hq hr hs wi wm wj once =
    let b = with_fork a w i x in
    let d = with_fork b y j z in
    let first = with_fork_keeps a w i x in
    let second = with_fork_keeps b y j z in
    let left = with_fork_stands a w i x p q hp hq wi (λ k. omega (arith, once k)) in
    let right = with_fork_stands b y j z r s (stands_kept _ a b y r first (λ k. omega (arith, once k)) hr) (stands_kept _ a b z s first (λ k. omega (arith, once k)) hs) (rw length_with_fork wj) (λ k. omega (arith, once k)) in
    with_fork_stands d i m j (Fork p i q) (Fork r j s) (stands_kept _ b d i (Fork p i q) second (λ k. omega (arith, once k)) left) right
    (rw (length_with_fork, length_with_fork) wm) (λ k. omega (arith, once k))

pub leant_left_lifted : (a : List Node) (left at right : ℕ) (l r : Shape) → Stands a left l → Stands a right r → at < length a → ((k : ℕ) → count k l + one k at + count k r ≤ 1) → 0 < height_at a left → height_at a (node_at a left).right ≤ height_at a (node_at a left).left → Stands (lifted_left a (node_at a left).left left (record { left = (node_at a left).right; at = at; right = right })) left (leant_left l at r)
leant_left_lifted a left at right Tip r h k within once high low = absurd (omega (arith, height_is a left Tip h))
leant_left_lifted a left at right (Fork p j q) r h k within once high low =
    let left_high = height_is a (node_at a j).left p h.left in
    let right_high = height_is a (node_at a j).right q h.right in
    let lower : height_at a (node_at a j).right ≤ height_at a (node_at a j).left = rw h.place at low in
    let test : nat_le (depth q) (depth p) ≡ true = grind (arith, nat_tests) in
    rw (h.place, test) (lifted_left_stands a (node_at a j).left at (node_at a j).right j right p q r h.left h.right k h.within within once)

pub leant_right_lifted : (a : List Node) (left at right : ℕ) (l r : Shape) → Stands a left l → Stands a right r → at < length a → ((k : ℕ) → count k l + one k at + count k r ≤ 1) → 0 < height_at a right → height_at a (node_at a right).left ≤ height_at a (node_at a right).right → Stands (lifted_right a (record { left = left; at = at; right = (node_at a right).left }) right (node_at a right).right) right (leant_right l at r)
leant_right_lifted a left at right l Tip h k within once high low = absurd (omega (arith, height_is a right Tip k))
leant_right_lifted a left at right l (Fork p j q) h k within once high low =
    let left_high = height_is a (node_at a j).left p k.left in
    let right_high = height_is a (node_at a j).right q k.right in
    let lower : height_at a (node_at a j).left ≤ height_at a (node_at a j).right = rw k.place at low in
    let test : nat_le (depth p) (depth q) ≡ true = grind (arith, nat_tests) in
    rw (k.place, test) (lifted_right_stands a left at (node_at a j).left j (node_at a j).right l p q h k.left k.right k.within within (λ m. omega (arith, once m)))

pub leant_left_turned : (a : List Node) (left at right : ℕ) (l r : Shape) → Stands a left l → Stands a right r → at < length a → ((k : ℕ) → count k l + one k at + count k r ≤ 1) → 0 < height_at a left → height_at a (node_at a left).left < height_at a (node_at a left).right → Stands (turned a (record { left = (node_at a left).left; at = left; right = (node_at a (node_at a left).right).left }) (node_at a left).right (record { left = (node_at a (node_at a left).right).right; at = at; right = right })) (node_at a left).right (leant_left l at r)
leant_left_turned a left at right Tip r h k within once high low = absurd (omega (arith, height_is a left Tip h))
leant_left_turned a left at right (Fork p j Tip) r h k within once high low =
    let lower : height_at a (node_at a j).left < height_at a (node_at a j).right = rw h.place at low in
    absurd (omega (arith, height_is a (node_at a j).right Tip h.right))
leant_left_turned a left at right (Fork p j (Fork q m s)) r h k within once high low =
    let left_high = height_is a (node_at a j).left p h.left in
    let right_high = height_is a (node_at a j).right (Fork q m s) h.right in
    let lower : height_at a (node_at a j).left < height_at a (node_at a j).right = rw h.place at low in
    let test : nat_le (depth (Fork q m s)) (depth p) ≡ false = grind (arith, nat_tests) in
    let Turned = λ (x : ℕ). Stands (turned a (record { left = (node_at a j).left; at = j; right = (node_at a x).left }) x (record { left = (node_at a x).right; at = at; right = right })) x (Fork (Fork p j q) m (Fork s at r)) in
    rw (h.place, test)
    (subst Turned (sym h.right.place)
    (turned_stands a (node_at a j).left j (node_at a m).left m (node_at a m).right at right p q s r h.left h.right.left h.right.right k h.within h.right.within within (λ n. omega (arith, once n))))

pub leant_right_turned : (a : List Node) (left at right : ℕ) (l r : Shape) → Stands a left l → Stands a right r → at < length a → ((k : ℕ) → count k l + one k at + count k r ≤ 1) → 0 < height_at a right → height_at a (node_at a right).right < height_at a (node_at a right).left → Stands (turned a (record { left = left; at = at; right = (node_at a (node_at a right).left).left }) (node_at a right).left (record { left = (node_at a (node_at a right).left).right; at = right; right = (node_at a right).right })) (node_at a right).left (leant_right l at r)
leant_right_turned a left at right l Tip h k within once high low = absurd (omega (arith, height_is a right Tip k))
leant_right_turned a left at right l (Fork Tip j p) h k within once high low =
    let lower : height_at a (node_at a j).right < height_at a (node_at a j).left = rw k.place at low in
    absurd (omega (arith, height_is a (node_at a j).left Tip k.left))
leant_right_turned a left at right l (Fork (Fork q m s) j p) h k within once high low =
    let right_high = height_is a (node_at a j).right p k.right in
    let left_high = height_is a (node_at a j).left (Fork q m s) k.left in
    let lower : height_at a (node_at a j).right < height_at a (node_at a j).left = rw k.place at low in
    let test : nat_le (depth (Fork q m s)) (depth p) ≡ false = grind (arith, nat_tests) in
    let Turned = λ (x : ℕ). Stands (turned a (record { left = left; at = at; right = (node_at a x).left }) x (record { left = (node_at a x).right; at = j; right = (node_at a j).right })) x (Fork (Fork l at q) m (Fork s j p)) in
    rw (k.place, test)
    (subst Turned (sym k.left.place)
    (turned_stands a left at (node_at a m).left m (node_at a m).right j (node_at a j).right l q s p h k.left.left k.left.right k.right within k.left.within k.within (λ n. omega (arith, once n))))

-- the node at which a tree stands is in it

count_root : (a : List Node) (at : ℕ) (t : Shape) → Stands a at t → 0 < height_at a at → (k : ℕ) → one k at ≤ count k t
count_root a at Tip h high k = absurd (omega (arith, height_is a at Tip h))
count_root a at (Fork l i r) h high k = rw h.place (omega arith)

count_right_root : (a : List Node) (at : ℕ) (t : Shape) → Stands a at t → 0 < height_at a at → 0 < height_at a (node_at a at).right → (k : ℕ) → one k at + one k (node_at a at).right ≤ count k t
count_right_root a at Tip h high low k = absurd (omega (arith, height_is a at Tip h))
count_right_root a at (Fork l i r) h high low k =
    let below : 0 < height_at a (node_at a i).right = rw h.place at low in
    rw h.place (omega (arith, count_root a (node_at a i).right r h.right below k))

count_left_root : (a : List Node) (at : ℕ) (t : Shape) → Stands a at t → 0 < height_at a at → 0 < height_at a (node_at a at).left → (k : ℕ) → one k at + one k (node_at a at).left ≤ count k t
count_left_root a at Tip h high low k = absurd (omega (arith, height_is a at Tip h))
count_left_root a at (Fork l i r) h high low k =
    let below : 0 < height_at a (node_at a i).left = rw h.place at low in
    rw h.place (omega (arith, count_root a (node_at a i).left l h.left below k))

-- only nodes of the two trees and the one between them are written

abbrev pub in_both : Shape → ℕ → Shape → ℕ → ℕ
in_both l at r k = count k l + one k at + count k r

pub lifted_left_keeps : (a : List Node) (x y z left at : ℕ) (l r : Shape) → Stands a left l → 0 < height_at a left → Keeps (in_both l at r) a (lifted_left a x left (record { left = y; at = at; right = z }))
unfolding lifted_left
lifted_left_keeps a x y z left at l r h high =
    let less = λ (k : ℕ) (e : in_both l at r k ≡ 0). let root = count_root a left l h high k in let pair : (one k at ≡ 0) × (one k left ≡ 0) = (omega arith, omega arith) in pair in
    keeps_then _ _ (in_both l at r) a (with_fork a y at z) _ less (with_fork_keeps a y at z) (with_fork_keeps (with_fork a y at z) x left at)

pub lifted_right_keeps : (a : List Node) (x y z at right : ℕ) (l r : Shape) → Stands a right r → 0 < height_at a right → Keeps (in_both l at r) a (lifted_right a (record { left = x; at = at; right = y }) right z)
unfolding lifted_right
lifted_right_keeps a x y z at right l r h high =
    let less = λ (k : ℕ) (e : in_both l at r k ≡ 0). let root = count_root a right r h high k in let pair : (one k at ≡ 0) × (one k right ≡ 0) = (omega arith, omega arith) in pair in
    keeps_then _ _ (in_both l at r) a (with_fork a x at y) _ less (with_fork_keeps a x at y) (with_fork_keeps (with_fork a x at y) at right z)

turned_keeps : (a : List Node) (w x y z i m j : ℕ) → Keeps (λ k. one k i + one k j + one k m) a (turned a (record { left = w; at = i; right = x }) m (record { left = y; at = j; right = z }))
unfolding turned
turned_keeps a w x y z i m j =
    let b = with_fork a w i x in
    let d = with_fork b y j z in
    let less = λ (k : ℕ) (e : one k i + one k j ≡ 0). let pair : (one k i ≡ 0) × (one k j ≡ 0) = (omega arith, omega arith) in pair in
    let last = λ (k : ℕ) (e : one k i + one k j + one k m ≡ 0). let pair : (one k i + one k j ≡ 0) × (one k m ≡ 0) = (omega arith, omega arith) in pair in
    keeps_then (λ k. one k i + one k j) _ _ a d _ last
    (keeps_then _ _ (λ k. one k i + one k j) a b d less (with_fork_keeps a w i x) (with_fork_keeps b y j z)) (with_fork_keeps d i m j)

pub keeps_fewer : (f g : ℕ → ℕ) (a b : List Node) → ((k : ℕ) → f k ≤ g k) → Keeps f a b → Keeps g a b
keeps_fewer f g a b less h = record { nodes = λ k e. h.nodes k (omega (arith, less k)); tags = h.tags }

pub turned_left_keeps : (a : List Node) (w x y z left at : ℕ) (l r : Shape) → Stands a left l → 0 < height_at a left → 0 < height_at a (node_at a left).right → Keeps (in_both l at r) a (turned a (record { left = w; at = left; right = x }) (node_at a left).right (record { left = y; at = at; right = z }))
turned_left_keeps a w x y z left at l r h high low =
    keeps_fewer _ (in_both l at r) a _ (λ k. omega (arith, count_right_root a left l h high low k)) (turned_keeps a w x y z left (node_at a left).right at)

pub turned_right_keeps : (a : List Node) (w x y z at right : ℕ) (l r : Shape) → Stands a right r → 0 < height_at a right → 0 < height_at a (node_at a right).left → Keeps (in_both l at r) a (turned a (record { left = w; at = at; right = x }) (node_at a right).left (record { left = y; at = right; right = z }))
turned_right_keeps a w x y z at right l r h high low =
    keeps_fewer _ (in_both l at r) a _ (λ k. omega (arith, count_left_root a right r h high low k)) (turned_keeps a w x y z at (node_at a right).left right)

pub with_fork_both : (a : List Node) (left at right : ℕ) (l r : Shape) → Keeps (in_both l at r) a (with_fork a left at right)
with_fork_both a left at right l r = keeps_fewer _ (in_both l at r) a _ (λ k. omega arith) (with_fork_keeps a left at right)

-- which way a tree leans

pub settled_left : (l : Shape) (i : ℕ) (r : Shape) → depth r + 1 < depth l → settled l i r ≡ leant_left l i r
settled_left l i r h = let test : nat_lt (depth r + 1) (depth l) ≡ true = grind (arith, nat_tests) in rw test refl

pub settled_right : (l : Shape) (i : ℕ) (r : Shape) → depth l + 1 < depth r → settled l i r ≡ leant_right l i r
settled_right l i r h =
    let first : nat_lt (depth r + 1) (depth l) ≡ false = grind (arith, nat_tests) in
    let second : nat_lt (depth l + 1) (depth r) ≡ true = grind (arith, nat_tests) in
    rw (first, second) refl

pub settled_even : (l : Shape) (i : ℕ) (r : Shape) → depth l ≤ depth r + 1 → depth r ≤ depth l + 1 → settled l i r ≡ Fork l i r
settled_even l i r h k =
    let first : nat_lt (depth r + 1) (depth l) ≡ false = grind (arith, nat_tests) in
    let second : nat_lt (depth l + 1) (depth r) ≡ false = grind (arith, nat_tests) in
    rw (first, second) refl

pub top_right : (a : List Node) (at : ℕ) (t : Shape) → Stands a at t → 0 < height_at a at → 0 < height_at a (node_at a at).right → IsTop a (node_at a at).right
top_right a at t h high low = let right = right_stands a at t h high in is_top a (node_at a at).right right.0 right.1 low

pub top_left : (a : List Node) (at : ℕ) (t : Shape) → Stands a at t → 0 < height_at a at → 0 < height_at a (node_at a at).left → IsTop a (node_at a at).left
top_left a at t h high low = let left = left_stands a at t h high in is_top a (node_at a at).left left.0 left.1 low
