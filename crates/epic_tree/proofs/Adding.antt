-- One more node at the end of the list, and its place put into the tree.
use Rattle.std.proofs.Common.{◌≡◌, ℕ, ◌+◌, ◌<◌, ◌≤◌, Bool, true, false, List, [], ◌∷◌, ◌++◌, length, take, refl, sym, ap, ◌∙◌, subst, arith, eqb-true, length-append}
use Rattle.std.specs.Prelude.{◌==◌, slice_index}
use Rattle.std.specs.Ordering.{nat_cmp, ordering_then}
use Rattle.std.proofs.lemmas.List.{get_or_append_left, get_or_at, length-map, map-append, take_at}
use Rattle.std.specs.declared.cmp.Ordering.{Ordering}
use Rattle.epic_tree.specs.Sides.{IsCut, by_tag}
use Rattle.epic_tree.specs.Shapes.{Shape, Tip, Fork, one, count, places, inserted}
use Rattle.epic_tree.specs.Arena.{node_at, tags_of, shape, Stands, IsTree, Keeps, IsKept, IsAdded}
use Rattle.epic_tree.specs.declared.arena.Node.{Node}
use Rattle.epic_tree.specs.declared.arena.TheConstants.{NIL, MAX_NODES}
use Rattle.epic_tree.proofs.ShapeLaws.{inserted_grown, count_inserted}
use Rattle.epic_tree.proofs.Cutting.{places_inserted}
use Rattle.epic_tree.proofs.Standing.{closed, shape_is, stands_few, keeps_length}
use Rattle.epic_tree.proofs.Growing.{once_with}

node_at-append : (a : List Node) (n : Node) (k : ℕ) → k < length a → node_at (a ++ n ∷ []) k ≡ node_at a k
unfolding node_at
node_at-append a n k h = get_or_append_left a (n ∷ []) _ k h

node_at_end : (a : List Node) (n : Node) → node_at (a ++ n ∷ []) (length a) ≡ n
unfolding node_at
node_at_end a n = get_or_at a n [] _ (length a) refl

-- the same tree stands among more nodes
stands_more : (a : List Node) (n : Node) (at : ℕ) (t : Shape) → length a < NIL → Stands a at t → Stands (a ++ n ∷ []) at t
stands_more a n at Tip few h = (h.0, omega (arith, length-append a (n ∷ [])))
stands_more a n at (Fork l i r) few h =
    let b = a ++ n ∷ [] in
    let same = node_at-append a n i h.within in
    record {
      place = h.place;
      within = omega (arith, length-append a (n ∷ []));
      left = subst (λ (m : Node). Stands b m.left l) (sym same) (stands_more a n (node_at a i).left l few h.left);
      right = subst (λ (m : Node). Stands b m.right r) (sym same) (stands_more a n (node_at a i).right r few h.right);
      high = ap (λ (m : Node). m.height) same ∙ h.high;
    }

apart_by : (b : Bool) (k i : ℕ) → (k == i) ≡ b → i < k → one k i ≡ 0
apart_by true k i e h = absurd (omega (arith, eqb-true k i e))
apart_by false k i e h = rw e refl

-- a place past the end stands in no tree
count_past : (a : List Node) (at : ℕ) (t : Shape) (k : ℕ) → Stands a at t → length a ≤ k → count k t ≡ 0
count_past a at Tip k h past = refl
count_past a at (Fork l i r) k h past =
    omega (arith, apart_by (k == i) k i refl (omega arith), count_past a (node_at a i).left l k h.left past, count_past a (node_at a i).right r k h.right past)

-- the nodes with one that stands alone
pub record IsFresh (a b : List Node) (tag root : ℕ) : Type 0 where
  pub tree : IsTree b root
  pub same : shape b root ≡ shape a root
  pub fresh : Stands b (length a) (Fork Tip (length a) Tip)
  pub apart : count (length a) (shape b root) ≡ 0
  pub tags : tags_of b ≡ tags_of a ++ tag ∷ []

pub is_fresh : (a : List Node) (tag root : ℕ) → IsKept a root → length a < MAX_NODES → IsFresh a (a ++ record { left = NIL; right = NIL; height = 1; tag = tag } ∷ []) tag root
is_fresh a tag root h few =
    let n : Node = record { left = NIL; right = NIL; height = 1; tag = tag } in
    let b = a ++ n ∷ [] in
    let long = length-append a (n ∷ []) in
    let stands = stands_more a n root (shape a root) (omega arith) h.tree.stands in
    let same : shape b root ≡ shape a root = shape_is b root _ (omega arith) stands in
    let end = node_at_end a n in
    record {
      tree = record { stands = rw same stands; once = λ k. rw same (h.tree.once k) };
      same = same;
      fresh = record {
        place = refl;
        within = omega arith;
        left = (ap (λ (m : Node). m.left) end, omega arith);
        right = (ap (λ (m : Node). m.right) end, omega arith);
        high = ap (λ (m : Node). m.height) end;
      };
      apart = rw same (count_past a root (shape a root) (length a) h.tree.stands (omega arith));
      tags = map-append (λ (m : Node). m.tag) a (n ∷ []);
    }

-- the place put in
pub is_added : (side : ℕ → Ordering) (a b d : List Node) (tag root top : ℕ) → IsKept a root → length a < MAX_NODES → IsFresh a b tag root → length b ≡ length a + 1 → IsCut side (places (shape a root)) → Stands d top (inserted side (length a) (shape b root)) → Keeps (λ k. count k (shape b root) + one k (length a)) b d → IsAdded side a d root top
is_added side a b d tag root top h few f long cut stands keeps =
    let n = length a in
    let there : Stands d top (inserted side n (shape a root)) = rw f.same at stands in
    let whole : shape d top ≡ inserted side n (shape a root) = shape_is d top _ (stands_few d top _ there) there in
    let grown = inserted_grown side n (shape a root) h.balanced in
    let longer = keeps_length _ b d keeps in
    let apart : count n (shape a root) ≡ 0 = rw f.same at f.apart in
    record {
      kept = record {
        tree = record {
          stands = rw whole there;
          once = λ k. rw whole (omega (arith, count_inserted k side n (shape a root), once_with k n (shape a root) (h.tree.once k) apart));
        };
        balanced = rw whole grown.balanced;
        low = rw whole (omega arith);
        few = omega arith;
      };
      places = ap places whole ∙ places_inserted side n (shape a root) cut;
      len = omega arith;
    }

-- the tree of no place
pub none_kept : IsKept [] NIL
none_kept =
    let tip = closed [] NIL refl in
    record {
      tree = record { stands = rw tip (refl, omega arith); once = λ k. rw tip (omega arith) };
      balanced = rw tip tt;
      low = rw tip (omega arith);
      few = omega arith;
    }

-- the list after the loan of its slice ends
pub written_back : (d rest : List Node) (n : ℕ) → length d ≡ n → take n (d ++ rest) ≡ d
written_back d rest n e = take_at d rest n e

-- what is inserted hangs on the sides of the places in the tree alone
inserted_alike : (a : List Node) (at : ℕ) (t : Shape) (s u : ℕ → Ordering) (n : ℕ) → Stands a at t → ((p : ℕ) → p < length a → s p ≡ u p) → inserted s n t ≡ inserted u n t
inserted_alike a at Tip s u n h same = refl
inserted_alike a at (Fork l i r) s u n h same =
    rw (same i h.within, inserted_alike a (node_at a i).left l s u n h.left same, inserted_alike a (node_at a i).right r s u n h.right same) refl

-- a further tag changes no side of the places before it
pub inserted_tagged : (a b : List Node) (tag root : ℕ) (sought : ℕ) (s : ℕ → Ordering) (n : ℕ) → IsKept a root → IsFresh a b tag root → inserted (by_tag (tags_of b) sought s) n (shape b root) ≡ inserted (by_tag (tags_of a) sought s) n (shape b root)
inserted_tagged a b tag root sought s n h f =
    let kept : (p : ℕ) → p < length a → by_tag (tags_of b) sought s p ≡ by_tag (tags_of a) sought s p =
    λ p low. ap (λ m. ordering_then (nat_cmp sought m) (s p)) (ap (λ ts. slice_index ts p) f.tags ∙ get_or_append_left (tags_of a) (tag ∷ []) 0 p (rw length-map low)) in
    rw f.same (inserted_alike a root (shape a root) (by_tag (tags_of b) sought s) (by_tag (tags_of a) sought s) n h.tree.stands kept)
