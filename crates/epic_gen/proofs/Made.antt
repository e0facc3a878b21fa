-- What is made of the seed are bytes.
use Rattle.std.proofs.Common.{◌≡◌, ℕ, zero, suc, ◌<◌, ◌≤◌, ◌&&◌, nat_lt, true, List, [], ◌∷◌, ◌++◌, length, take, replicate, refl, arith}
use Rattle.std.specs.Int.{byte_at, bytes_high_first, to_be_bytes, w64, w128}
use Rattle.std.specs.List.{list_all}
use Rattle.std.proofs.lemmas.Bool.{and_parts, ltb-true}
use Rattle.hex.specs.Hex.{IsBytes}
use Rattle.epic_aes.specs.Chain.{block_sum, chain}
use Rattle.epic_aes.specs.Cipher.{aes}
use Rattle.epic_cmac.specs.Cmac.{bits_double, block_double, blocks, cmac, first_subkey, last_block, padded_block, second_subkey, zero_block}
use Rattle.epic_gen.specs.Names.{generator_key, master_of, payload_of}
use Rattle.epic_gen.proofs.TagBytes.{aes_bytes, block_sum_bytes}

-- ---- lists of bytes

bytes_cons : (a : ℕ) (xs : List ℕ) → a < 256 → IsBytes xs → IsBytes (a ∷ xs)
bytes_cons a xs low h zero = low
bytes_cons a xs low h (suc i) = h i

bytes_append : (xs ys : List ℕ) → IsBytes xs → IsBytes ys → IsBytes (xs ++ ys)
bytes_append [] ys h g = g
bytes_append (x ∷ xs) ys h g = bytes_cons x (xs ++ ys) (h zero) (bytes_append xs ys (λ i. h (suc i)) g)

bytes_take : (n : ℕ) (xs : List ℕ) → IsBytes xs → IsBytes (take n xs)
bytes_take zero xs h i = omega arith
bytes_take (suc n) [] h i = omega arith
bytes_take (suc n) (x ∷ xs) h i = bytes_cons x (take n xs) (h zero) (bytes_take n xs (λ j. h (suc j))) i

-- by computing
all_bytes : (xs : List ℕ) → list_all (λ b. nat_lt b 256) xs ≡ true → IsBytes xs
all_bytes [] is i = omega arith
all_bytes (x ∷ xs) is i =
    let (here, more) = and_parts (nat_lt x 256) (list_all (λ b. nat_lt b 256) xs) is in
    bytes_cons x xs (ltb-true x 256 here) (all_bytes xs more) i

byte_at_is : (k n : ℕ) → byte_at k n < 256
byte_at_is zero n = omega arith
byte_at_is (suc k) n = omega arith

high_bytes : (k n : ℕ) → IsBytes (bytes_high_first k n)
high_bytes zero n i = omega arith
high_bytes (suc k) n i = bytes_cons (byte_at k n) (bytes_high_first k n) (byte_at_is k n) (high_bytes k n) i

-- ---- tags of short messages under the generator's key

key_bytes : IsBytes generator_key
key_bytes = all_bytes generator_key refl

subkey_bytes : (block : List ℕ) → IsBytes (block_double block)
unfolding block_double
subkey_bytes block = high_bytes 16 _

pub master_bytes : (seed place : ℕ) → place < 256 → IsBytes (master_of seed place)
unfolding master_of cmac chain blocks last_block second_subkey
master_bytes seed place low =
    let message = bytes_high_first 8 seed ++ place ∷ [] in
    let padded = padded_block message in
    aes_bytes generator_key (block_sum zero_block (block_sum padded (second_subkey generator_key))) key_bytes
    (block_sum_bytes zero_block (block_sum padded (second_subkey generator_key)) (all_bytes zero_block refl)
    (block_sum_bytes padded (second_subkey generator_key)
    (bytes_append message (0x80 ∷ replicate 6 0)
    (bytes_append (bytes_high_first 8 seed) (place ∷ []) (high_bytes 8 seed) (bytes_cons place [] low (all_bytes [] refl)))
    (all_bytes (0x80 ∷ replicate 6 0) refl))
    (subkey_bytes (first_subkey generator_key))))

pub payload_bytes : (seed number : ℕ) → IsBytes (payload_of seed number)
unfolding payload_of cmac chain blocks last_block first_subkey
payload_bytes seed number =
    let message = bytes_high_first 8 seed ++ bytes_high_first 8 number in
    let block = block_sum message (first_subkey generator_key) in
    bytes_take 8 _
    (aes_bytes generator_key (block_sum zero_block block) key_bytes
    (block_sum_bytes zero_block block (all_bytes zero_block refl)
    (block_sum_bytes message (first_subkey generator_key)
    (bytes_append (bytes_high_first 8 seed) (bytes_high_first 8 number) (high_bytes 8 seed) (high_bytes 8 number))
    (subkey_bytes (aes generator_key zero_block)))))
