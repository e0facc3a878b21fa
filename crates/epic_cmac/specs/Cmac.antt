-- AES-CMAC (RFC 4493) as a function on lists of bytes. Section numbers are the standard's.
use Rattle.std.specs.Prelude.{ℕ, ◌-◌, ◌*◌, ◌/◌, ◌^◌, ◌==◌, nat_lt, List, [], ◌∷◌, ◌++◌, length, drop, replicate, bit_xor, if◌then◌else◌}
use Rattle.std.specs.Int.{w128, from_be_bytes, to_be_bytes}
use Rattle.std.specs.Simd.{first_chunks}
use Rattle.epic_aes.specs.Cipher.{aes}
use Rattle.epic_aes.specs.Chain.{block_sum, chain}

-- the block of zeros
abbrev pub zero_block : List ℕ
zero_block = replicate 16 0

-- an element of the field of 2^128 elements doubled, as a number of 128 bits: shifted left by one, and 0x87 added
-- where the bit that is shifted out was 1 (2.3)
abbrev pub bits_double : ℕ → ℕ
bits_double bits = if nat_lt bits (2 ^ 127) then 2 * bits else bit_xor (2 * bits - 2 ^ 128) 0x87

-- a block doubled, its first bit the highest (2.3)
unfoldable pub block_double : List ℕ → List ℕ
block_double block = to_be_bytes w128 (bits_double (from_be_bytes w128 block))

-- the subkey for a whole last block (2.3)
unfoldable pub first_subkey : List ℕ → List ℕ
first_subkey key = block_double (aes key zero_block)

-- the subkey for a last block that is padded (2.3)
unfoldable pub second_subkey : List ℕ → List ℕ
second_subkey key = block_double (first_subkey key)

-- fewer than 16 bytes made a block: a bit 1 and then zeros follow them (2.4)
abbrev pub padded_block : List ℕ → List ℕ
padded_block rest = rest ++ 0x80 ∷ replicate (15 - length rest) 0

-- the last block as it goes into the chain, from the rest of a message, at most 16 bytes (2.4, step 4)
unfoldable pub last_block : List ℕ → List ℕ → List ℕ
last_block key rest =
    if length rest == 16 then block_sum rest (first_subkey key) else block_sum (padded_block rest) (second_subkey key)

-- the number of blocks before the last, which is never empty unless the message is (2.4, steps 2 and 3)
abbrev pub count_before_last : List ℕ → ℕ
count_before_last message = (length message - 1) / 16

-- the blocks that a message is cut into, as they go into the chain
unfoldable pub blocks : List ℕ → List ℕ → List (List ℕ)
blocks key message =
    let count = count_before_last message in
    first_chunks 16 count message ++ last_block key (drop (16 * count) message) ∷ []

-- the tag of a message (2.4, steps 5 to 7)
unfoldable pub cmac : List ℕ → List ℕ → List ℕ
cmac key message = chain key zero_block (blocks key message)
