-- What bringing into balance and inserting do to a tree: its places, how often each stands in it, its height.
use Rattle.std.proofs.Common.{◌≡◌, ℕ, ◌+◌, ◌<◌, ◌≤◌, max, Bool, true, false, ◌∷◌, ◌++◌, Ordering, refl, arith, append_assoc, ltb-true, ltb-false, leb-true, leb-false}
use Rattle.std.specs.Prelude.{nat_lt, nat_le}
use Rattle.std.specs.declared.cmp.Ordering.TheVariants.{Less, Equal, Greater}
use Rattle.epic_tree.specs.Shapes.{Shape, Tip, Fork, depth, places, one, count, IsBalanced, raised_left, raised_right, leant_left, leant_right, settled_by, settled, inserted_by, inserted}

-- how often a place stands in a tree

count_raised_left : (k : ℕ) (lower : Bool) (a : Shape) (j : ℕ) (b : Shape) (i : ℕ) (r : Shape) → count k (raised_left lower a j b i r) ≡ count k (Fork (Fork a j b) i r)
count_raised_left k true a j b i r = omega arith
count_raised_left k false a j Tip i r = omega arith
count_raised_left k false a j (Fork b m c) i r = omega arith

count_raised_right : (k : ℕ) (lower : Bool) (l : Shape) (i : ℕ) (b : Shape) (j : ℕ) (a : Shape) → count k (raised_right lower l i b j a) ≡ count k (Fork l i (Fork b j a))
count_raised_right k true l i b j a = omega arith
count_raised_right k false l i Tip j a = omega arith
count_raised_right k false l i (Fork c m b) j a = omega arith

pub count_leant_left : (k : ℕ) (l : Shape) (i : ℕ) (r : Shape) → count k (leant_left l i r) ≡ count k (Fork l i r)
count_leant_left k Tip i r = refl
count_leant_left k (Fork a j b) i r = count_raised_left k (nat_le (depth b) (depth a)) a j b i r

pub count_leant_right : (k : ℕ) (l : Shape) (i : ℕ) (r : Shape) → count k (leant_right l i r) ≡ count k (Fork l i r)
count_leant_right k l i Tip = refl
count_leant_right k l i (Fork b j a) = count_raised_right k (nat_le (depth b) (depth a)) l i b j a

count_settled_by : (k : ℕ) (left right : Bool) (l : Shape) (i : ℕ) (r : Shape) → count k (settled_by left right l i r) ≡ count k (Fork l i r)
count_settled_by k true right l i r = count_leant_left k l i r
count_settled_by k false true l i r = count_leant_right k l i r
count_settled_by k false false l i r = refl

pub count_settled : (k : ℕ) (l : Shape) (i : ℕ) (r : Shape) → count k (settled l i r) ≡ count k (Fork l i r)
count_settled k l i r = count_settled_by k (nat_lt (depth r + 1) (depth l)) (nat_lt (depth l + 1) (depth r)) l i r

count_inserted_by : (k : ℕ) (o : Ordering) (n : ℕ) (l : Shape) (i : ℕ) (r left right : Shape) → count k left ≤ count k l + one k n → count k right ≤ count k r + one k n → count k (inserted_by o l i r left right) ≤ count k (Fork l i r) + one k n
count_inserted_by k Less n l i r left right hl hr = omega (arith, count_settled k left i r)
count_inserted_by k Equal n l i r left right hl hr = omega arith
count_inserted_by k Greater n l i r left right hl hr = omega (arith, count_settled k l i right)

pub count_inserted : (k : ℕ) (side : ℕ → Ordering) (n : ℕ) (t : Shape) → count k (inserted side n t) ≤ count k t + one k n
count_inserted k side n Tip = omega arith
count_inserted k side n (Fork l i r) =
    count_inserted_by k (side i) n l i r (inserted side n l) (inserted side n r) (count_inserted k side n l) (count_inserted k side n r)

-- the places from left to right

places_raised_left : (lower : Bool) (a : Shape) (j : ℕ) (b : Shape) (i : ℕ) (r : Shape) → places (raised_left lower a j b i r) ≡ places (Fork (Fork a j b) i r)
places_raised_left true a j b i r = simp append_assoc
places_raised_left false a j Tip i r = simp append_assoc
places_raised_left false a j (Fork b m c) i r = simp append_assoc

places_raised_right : (lower : Bool) (l : Shape) (i : ℕ) (b : Shape) (j : ℕ) (a : Shape) → places (raised_right lower l i b j a) ≡ places (Fork l i (Fork b j a))
places_raised_right true l i b j a = simp append_assoc
places_raised_right false l i Tip j a = simp append_assoc
places_raised_right false l i (Fork c m b) j a = simp append_assoc

places_leant_left : (l : Shape) (i : ℕ) (r : Shape) → places (leant_left l i r) ≡ places (Fork l i r)
places_leant_left Tip i r = refl
places_leant_left (Fork a j b) i r = places_raised_left (nat_le (depth b) (depth a)) a j b i r

places_leant_right : (l : Shape) (i : ℕ) (r : Shape) → places (leant_right l i r) ≡ places (Fork l i r)
places_leant_right l i Tip = refl
places_leant_right l i (Fork b j a) = places_raised_right (nat_le (depth b) (depth a)) l i b j a

places_settled_by : (left right : Bool) (l : Shape) (i : ℕ) (r : Shape) → places (settled_by left right l i r) ≡ places (Fork l i r)
places_settled_by true right l i r = places_leant_left l i r
places_settled_by false true l i r = places_leant_right l i r
places_settled_by false false l i r = refl

pub places_settled : (l : Shape) (i : ℕ) (r : Shape) → places (settled l i r) ≡ places l ++ i ∷ places r
places_settled l i r = places_settled_by (nat_lt (depth r + 1) (depth l)) (nat_lt (depth l + 1) (depth r)) l i r

-- heights

-- a tree is two trees brought into balance: as high as the higher of them or by one higher, and higher where they were even
pub record IsSettled (l r t : Shape) : Type 0 where
  pub balanced : IsBalanced t
  pub least : max (depth l) (depth r) ≤ depth t
  pub most : depth t ≤ max (depth l) (depth r) + 1
  pub even : depth l ≤ depth r + 1 → depth r ≤ depth l + 1 → max (depth l) (depth r) < depth t

settled_raised_left : (lower : Bool) (a : Shape) (j : ℕ) (b : Shape) (i : ℕ) (r : Shape) → nat_le (depth b) (depth a) ≡ lower → IsBalanced (Fork a j b) → IsBalanced r → depth (Fork a j b) ≡ depth r + 2 → IsSettled (Fork a j b) r (raised_left lower a j b i r)
settled_raised_left true a j b i r e h k d =
    let low = leb-true _ _ e in
    record { balanced = (h.0, (h.1, k, omega arith, omega arith), omega arith, omega arith); least = omega arith; most = omega arith; even = λ p q. absurd (omega arith) }
settled_raised_left false a j Tip i r e h k d = absurd (omega (arith, leb-false _ _ e))
settled_raised_left false a j (Fork b m c) i r e h k d =
    let high = leb-false _ _ e in
    let g = h.1 in
    record {
      balanced = ((h.0, g.0, omega arith, omega arith), (g.1, k, omega arith, omega arith), omega arith, omega arith);
      least = omega arith;
      most = omega arith;
      even = λ p q. absurd (omega arith);
    }

settled_raised_right : (lower : Bool) (l : Shape) (i : ℕ) (b : Shape) (j : ℕ) (a : Shape) → nat_le (depth b) (depth a) ≡ lower → IsBalanced l → IsBalanced (Fork b j a) → depth (Fork b j a) ≡ depth l + 2 → IsSettled l (Fork b j a) (raised_right lower l i b j a)
settled_raised_right true l i b j a e k h d =
    let low = leb-true _ _ e in
    record { balanced = ((k, h.0, omega arith, omega arith), h.1, omega arith, omega arith); least = omega arith; most = omega arith; even = λ p q. absurd (omega arith) }
settled_raised_right false l i Tip j a e k h d = absurd (omega (arith, leb-false _ _ e))
settled_raised_right false l i (Fork c m b) j a e k h d =
    let high = leb-false _ _ e in
    let g = h.0 in
    record {
      balanced = ((k, g.0, omega arith, omega arith), (g.1, h.1, omega arith, omega arith), omega arith, omega arith);
      least = omega arith;
      most = omega arith;
      even = λ p q. absurd (omega arith);
    }

settled_leant_left : (l : Shape) (i : ℕ) (r : Shape) → IsBalanced l → IsBalanced r → depth l ≡ depth r + 2 → IsSettled l r (leant_left l i r)
settled_leant_left Tip i r h k d = absurd (omega arith)
settled_leant_left (Fork a j b) i r h k d = settled_raised_left (nat_le (depth b) (depth a)) a j b i r refl h k d

settled_leant_right : (l : Shape) (i : ℕ) (r : Shape) → IsBalanced l → IsBalanced r → depth r ≡ depth l + 2 → IsSettled l r (leant_right l i r)
settled_leant_right l i Tip h k d = absurd (omega arith)
settled_leant_right l i (Fork b j a) h k d = settled_raised_right (nat_le (depth b) (depth a)) l i b j a refl h k d

is_settled_by : (left right : Bool) (l : Shape) (i : ℕ) (r : Shape) → nat_lt (depth r + 1) (depth l) ≡ left → nat_lt (depth l + 1) (depth r) ≡ right → IsBalanced l → IsBalanced r → depth l ≤ depth r + 2 → depth r ≤ depth l + 2 → IsSettled l r (settled_by left right l i r)
is_settled_by true right l i r e f h k p q = settled_leant_left l i r h k (omega (arith, ltb-true _ _ e))
is_settled_by false true l i r e f h k p q = settled_leant_right l i r h k (omega (arith, ltb-true _ _ f))
is_settled_by false false l i r e f h k p q =
    let high = ltb-false _ _ e in
    let low = ltb-false _ _ f in
    record { balanced = (h, k, omega arith, omega arith); least = omega arith; most = omega arith; even = λ p q. omega arith }

pub is_settled : (l : Shape) (i : ℕ) (r : Shape) → IsBalanced l → IsBalanced r → depth l ≤ depth r + 2 → depth r ≤ depth l + 2 → IsSettled l r (settled l i r)
is_settled l i r h k p q = is_settled_by (nat_lt (depth r + 1) (depth l)) (nat_lt (depth l + 1) (depth r)) l i r refl refl h k p q

-- a balanced tree as high as that, or by one higher
pub record IsGrown (old new : Shape) : Type 0 where
  pub balanced : IsBalanced new
  pub least : depth old ≤ depth new
  pub most : depth new ≤ depth old + 1

grown_by : (o : Ordering) (l : Shape) (i : ℕ) (r left right : Shape) → IsBalanced (Fork l i r) → IsGrown l left → IsGrown r right → IsGrown (Fork l i r) (inserted_by o l i r left right)
grown_by Less l i r left right h gl gr =
    let s = is_settled left i r gl.balanced h.1 (omega arith) (omega arith) in
    record { balanced = s.balanced; least = grind arith; most = omega arith }
grown_by Equal l i r left right h gl gr = record { balanced = h; least = omega arith; most = omega arith }
grown_by Greater l i r left right h gl gr =
    let s = is_settled l i right h.0 gr.balanced (omega arith) (omega arith) in
    record { balanced = s.balanced; least = grind arith; most = omega arith }

pub inserted_grown : (side : ℕ → Ordering) (n : ℕ) (t : Shape) → IsBalanced t → IsGrown t (inserted side n t)
inserted_grown side n Tip h = record { balanced = (tt, tt, omega arith, omega arith); least = omega arith; most = omega arith }
inserted_grown side n (Fork l i r) h =
    grown_by (side i) l i r (inserted side n l) (inserted side n r) h (inserted_grown side n l h.0) (inserted_grown side n r h.1)
