-- Private: serves proofs of this crate alone; no public contract cites it.
-- Trees whose nodes are places, apart from where they are kept.
use Rattle.std.specs.Prelude.{ℕ, ◌+◌, ◌==◌, ◌≤◌, nat_lt, nat_le, max, Bool, true, false, if◌then◌else◌, List, [], ◌∷◌, ◌++◌, Option, Some, None}
use Rattle.std.specs.declared.cmp.Ordering.{Ordering}
use Rattle.std.specs.declared.cmp.Ordering.TheVariants.{Less, Equal, Greater}

pub data Shape : Type 0 where
  Tip : Shape
  Fork : Shape → ℕ → Shape → Shape

abbrev pub depth : Shape → ℕ
depth Tip = 0
depth (Fork l i r) = max (depth l) (depth r) + 1

-- the places from left to right
abbrev pub places : Shape → List ℕ
places Tip = []
places (Fork l i r) = places l ++ i ∷ places r

-- 1 where two places are one
abbrev pub one : ℕ → ℕ → ℕ
one k i = if k == i then 1 else 0

-- how often a place stands in a tree
abbrev pub count : ℕ → Shape → ℕ
count k Tip = 0
count k (Fork l i r) = count k l + one k i + count k r

-- the heights of two siblings differ by at most one
abbrev pub IsBalanced : Shape → Type 0
IsBalanced Tip = Unit {0}
IsBalanced (Fork l i r) = IsBalanced l × IsBalanced r × (depth l ≤ depth r + 1) × (depth r ≤ depth l + 1)

-- The left tree is the higher by two: its root comes on top, or where its right child is the higher one, the root of that.
abbrev pub raised_left : Bool → Shape → ℕ → Shape → ℕ → Shape → Shape
raised_left true a j b i r = Fork a j (Fork b i r)
raised_left false a j Tip i r = Fork a j (Fork Tip i r)
raised_left false a j (Fork b k c) i r = Fork (Fork a j b) k (Fork c i r)

abbrev pub leant_left : Shape → ℕ → Shape → Shape
leant_left Tip i r = Fork Tip i r
leant_left (Fork a j b) i r = raised_left (nat_le (depth b) (depth a)) a j b i r

-- the same where the right one is
abbrev pub raised_right : Bool → Shape → ℕ → Shape → ℕ → Shape → Shape
raised_right true l i b j a = Fork (Fork l i b) j a
raised_right false l i Tip j a = Fork (Fork l i Tip) j a
raised_right false l i (Fork c k b) j a = Fork (Fork l i c) k (Fork b j a)

abbrev pub leant_right : Shape → ℕ → Shape → Shape
leant_right l i Tip = Fork l i Tip
leant_right l i (Fork b j a) = raised_right (nat_le (depth b) (depth a)) l i b j a

abbrev pub settled_by : Bool → Bool → Shape → ℕ → Shape → Shape
settled_by true lower l i r = leant_left l i r
settled_by false true l i r = leant_right l i r
settled_by false false l i r = Fork l i r

-- two trees round a place, brought into balance
abbrev pub settled : Shape → ℕ → Shape → Shape
settled l i r = settled_by (nat_lt (depth r + 1) (depth l)) (nat_lt (depth l + 1) (depth r)) l i r

abbrev pub inserted_by : Ordering → Shape → ℕ → Shape → Shape → Shape → Shape
inserted_by Less l i r left right = settled left i r
inserted_by Equal l i r left right = Fork l i r
inserted_by Greater l i r left right = settled l i right

-- a tree with one more place where what is sought stands, unless a place stands there
abbrev pub inserted : (ℕ → Ordering) → ℕ → Shape → Shape
inserted side n Tip = Fork Tip n Tip
inserted side n (Fork l i r) = inserted_by (side i) l i r (inserted side n l) (inserted side n r)

abbrev pub sought_by : Ordering → ℕ → Option ℕ → Option ℕ → Option ℕ
sought_by Less i left right = left
sought_by Equal i left right = Some i
sought_by Greater i left right = right

-- the place where what is sought stands, along one way down
abbrev pub sought : (ℕ → Ordering) → Shape → Option ℕ
sought side Tip = None
sought side (Fork l i r) = sought_by (side i) i (sought side l) (sought side r)
