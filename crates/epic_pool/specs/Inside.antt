-- Private: serves proofs of this crate alone; no public contract cites it.
-- What stands in a pool's fields. Node numbers are indices; below `base` are the heads of lists. The nodes without a value are one
-- more list of the first family, behind its others, and stand alone in the second.
use Rattle.std.specs.Prelude.{◌≡◌, ℕ, ◌<◌, ◌≤◌, ◌^◌, List, map, length, nat_lt, cond, Option, Some, None, IsSome, slice_index, slice_index_or}
use Rattle.std.specs.List.{All, Contains, range_with_len}
use Rattle.epic_pool.specs.Rings.{IsRings, ring}

-- the lists of the first so many heads
unfoldable pub lists_of : ℕ → List ℕ → ℕ → List (List ℕ)
lists_of base next n = map (ring base next) (range_with_len 0 n)

-- the node that follows an index
unfoldable pub node_after : ℕ → List ℕ → ℕ → Option ℕ
node_after base next i = cond (nat_lt (slice_index next i) base) None (Some (slice_index next i))

-- one of so many lists has the node
pub record IsListed (base lists : ℕ) (next : List ℕ) (node : ℕ) : Type 0 where
  pub list : ℕ
  pub there : list < lists
  pub met : Contains (ring base next list) node

pub record IsPool {T : Type 0} (base lists_a lists_b : ℕ) (next_a prev_a next_b prev_b : List ℕ) (values : List (Option T)) : Type 0 where
  pub rings_a : IsRings base next_a prev_a
  pub rings_b : IsRings base next_b prev_b
  pub same_length : length next_b ≡ length next_a
  pub values_length : length values ≡ length next_a
  pub heads_a : lists_a < base
  pub heads_b : lists_b ≤ base
  pub live_a : (l : ℕ) → l < lists_a → All (λ (node : ℕ). IsSome (slice_index_or values node None)) (ring base next_a l)
  pub live_b : (l : ℕ) → l < lists_b → All (λ (node : ℕ). IsSome (slice_index_or values node None)) (ring base next_b l)
  pub unused : All (λ (node : ℕ). slice_index_or values node None ≡ None) (ring base next_a lists_a)
  pub alone : (i : ℕ) → base ≤ i → i < length next_a → slice_index_or values i None ≡ None → slice_index next_b i ≡ i
  pub heads_empty : (i : ℕ) → i < base → slice_index_or values i None ≡ None
  pub listed_a : (i : ℕ) → IsSome (slice_index_or values i None) → IsListed base lists_a next_a i
  pub listed_b : (i : ℕ) → IsSome (slice_index_or values i None) → IsListed base lists_b next_b i
  pub numbers : length next_a < 2 ^ 32

-- a pool whose unused nodes are so many
pub record IsCounted {T : Type 0} (base lists_a lists_b spare : ℕ) (next_a prev_a next_b prev_b : List ℕ) (values : List (Option T)) : Type 0 where
  pub pool : IsPool base lists_a lists_b next_a prev_a next_b prev_b values
  pub counted : spare ≡ length (ring base next_a lists_a)
