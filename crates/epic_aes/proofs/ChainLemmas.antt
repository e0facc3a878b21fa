-- Chaining block by block, and over lists of blocks that are joined.
use Rattle.std.proofs.Common.{◌≡◌, ℕ, ◌+◌, ◌<◌, List, [], ◌∷◌, ◌++◌, length, take, get_or, slice_index, bit_xor, refl}
use Rattle.std.proofs.lemmas.List.Sums.{fold_more}
use Rattle.std.proofs.lemmas.Nat.{xor_comm}
use Rattle.epic_aes.specs.Cipher.{add_round_key, aes}
use Rattle.epic_aes.specs.Chain.{block_sum, chain}
use Rattle.epic_aes.proofs.XorLemmas.{xor_sum}

pub chain_none : (key x : List ℕ) (blocks : List (List ℕ)) → chain key x (take 0 blocks) ≡ x
unfolding chain
chain_none key x blocks = refl

pub chain_more : (key x : List ℕ) (blocks : List (List ℕ)) (i : ℕ) → i < length blocks →
    chain key x (take (i + 1) blocks) ≡ aes key (block_sum (chain key x (take i blocks)) (get_or blocks i []))
unfolding chain
chain_more key x blocks i inside = fold_more (λ y block. aes key (block_sum y block)) x blocks i [] inside

pub chain-append : (key x : List ℕ) (front back : List (List ℕ)) →
    chain key x (front ++ back) ≡ chain key (chain key x front) back
unfolding chain
chain-append key x [] back = refl
chain-append key x (block ∷ front) back = chain-append key (aes key (block_sum x block)) front back

pub chain-one : (key x block : List ℕ) → chain key x (block ∷ []) ≡ aes key (block_sum x block)
unfolding chain
chain-one key x block = refl

-- a block and a key are added in either order
pub sum_order : (s k b : List ℕ) → add_round_key s (add_round_key k b) ≡ add_round_key (add_round_key s b) k
sum_order s k b =
    λ i. at 0 i ∷ at 1 i ∷ at 2 i ∷ at 3 i ∷ at 4 i ∷ at 5 i ∷ at 6 i ∷ at 7 i ∷ at 8 i ∷ at 9 i ∷ at 10 i ∷ at 11 i ∷ at 12 i ∷ at 13 i ∷ at 14 i ∷ at 15 i ∷ []
  where
    at : (n : ℕ) → bit_xor (slice_index s n) (bit_xor (slice_index k n) (slice_index b n)) ≡ bit_xor (bit_xor (slice_index s n) (slice_index b n)) (slice_index k n)
    at n = xor_sum (slice_index s n) (slice_index k n) (slice_index b n)

-- two blocks are added in either order
pub sum_turned : (a b : List ℕ) → add_round_key a b ≡ add_round_key b a
sum_turned a b =
    λ i. at 0 i ∷ at 1 i ∷ at 2 i ∷ at 3 i ∷ at 4 i ∷ at 5 i ∷ at 6 i ∷ at 7 i ∷ at 8 i ∷ at 9 i ∷ at 10 i ∷ at 11 i ∷ at 12 i ∷ at 13 i ∷ at 14 i ∷ at 15 i ∷ []
  where
    at : (n : ℕ) → bit_xor (slice_index a n) (slice_index b n) ≡ bit_xor (slice_index b n) (slice_index a n)
    at n = xor_comm (slice_index a n) (slice_index b n)
