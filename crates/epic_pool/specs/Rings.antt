-- Private: serves proofs of this crate alone; no public contract cites it.
-- Circular lists by index: the indices below `base` are the heads of the lists, the others are nodes. An index that is followed by
-- itself is in no list.
use Rattle.std.specs.Prelude.{◌≡◌, ℕ, zero, suc, ◌+◌, ◌<◌, ◌≤◌, ◌==◌, nat_lt, cond, not, List, [], ◌∷◌, ◌++◌, length, filter, slice_index}

-- from an index over these nodes to another
unfoldable pub Path : ℕ → List ℕ → ℕ → List ℕ → ℕ → Type 0
Path base next from [] to = slice_index next from ≡ to
Path base next from (x ∷ xs) to = (slice_index next from ≡ x) × (base ≤ x) × Path base next x xs to

-- the nodes after an index, up to the next head, and at most so many
unfoldable pub nodes_after : ℕ → List ℕ → ℕ → ℕ → List ℕ
nodes_after base next zero from = []
nodes_after base next (suc n) from =
    cond (nat_lt (slice_index next from) base) [] (slice_index next from ∷ nodes_after base next n (slice_index next from))

-- the list with this head
unfoldable pub ring : ℕ → List ℕ → ℕ → List ℕ
ring base next l = nodes_after base next (length next) l

pub record IsRings (base : ℕ) (next prev : List ℕ) : Type 0 where
  pub same_length : length prev ≡ length next
  pub heads : base ≤ length next
  pub next_inside : (i : ℕ) → i < length next → slice_index next i < length next
  pub prev_inside : (i : ℕ) → i < length next → slice_index prev i < length next
  pub back : (i : ℕ) → i < length next → slice_index prev (slice_index next i) ≡ i
  pub forth : (i : ℕ) → i < length next → slice_index next (slice_index prev i) ≡ i
  pub closed : (l : ℕ) → l < base → Path base next l (ring base next l) l

-- two writes one after the other: `v` at `p`, then `w` at `n`
pub record TwoWrites (xs ys : List ℕ) (p v n w : ℕ) : Type 0 where
  pub same_length : length ys ≡ length xs
  pub at_last : slice_index ys n ≡ w
  pub at_first : (k : ℕ) → k ≡ p → (k ≡ n → ⊥) → slice_index ys k ≡ v
  pub elsewhere : (k : ℕ) → (k ≡ n → ⊥) → (k ≡ p → ⊥) → slice_index ys k ≡ slice_index xs k

-- a node that stood alone is put at the end of the list of a head
pub record Linked (base head node : ℕ) (next after before : List ℕ) : Type 0 where
  pub rings : IsRings base after before
  pub same_length : length after ≡ length next
  pub appended : ring base after head ≡ ring base next head ++ node ∷ []
  pub others : (l : ℕ) → l < base → (l ≡ head → ⊥) → ring base after l ≡ ring base next l
  pub alone : (i : ℕ) → base ≤ i → (i ≡ node → ⊥) → slice_index next i ≡ i → slice_index after i ≡ i

-- a node is taken out of its list, and stands alone
pub record Unlinked (base node : ℕ) (next after before : List ℕ) : Type 0 where
  pub rings : IsRings base after before
  pub same_length : length after ≡ length next
  pub lists : (l : ℕ) → l < base → ring base after l ≡ filter (λ x. not (x == node)) (ring base next l)
  pub apart : slice_index after node ≡ node
  pub alone : (i : ℕ) → (i ≡ node → ⊥) → slice_index next i ≡ i → slice_index after i ≡ i

-- one more index, which stands alone
pub record Grown (base : ℕ) (next after before : List ℕ) : Type 0 where
  pub rings : IsRings base after before
  pub same_length : length after ≡ length next + 1
  pub lists : (l : ℕ) → l < base → ring base after l ≡ ring base next l
  pub apart : slice_index after (length next) ≡ length next
  pub alone : (i : ℕ) → i < length next → slice_index next i ≡ i → slice_index after i ≡ i

-- so many indices, each of which stands alone
pub record Alone (count : ℕ) (next prev : List ℕ) : Type 0 where
  pub rings : IsRings count next prev
  pub same_length : length next ≡ count
  pub lists : (l : ℕ) → l < count → ring count next l ≡ []

-- so many indices, each of which names itself
pub record Itself (count : ℕ) (xs : List ℕ) : Type 0 where
  pub same_length : length xs ≡ count
  pub each : (i : ℕ) → i < count → slice_index xs i ≡ i
