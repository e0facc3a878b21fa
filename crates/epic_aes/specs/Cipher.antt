-- AES-128 (FIPS 197) as a function on lists of bytes. Section numbers are the standard's.
use Rattle.std.specs.Prelude.{ℕ, zero, suc, ◌+◌, ◌*◌, ◌/◌, ◌%◌, ◌==◌, List, map, slice_index, bit_xor, if◌then◌else◌}
use Rattle.std.specs.List.{range_with_len}
use Rattle.epic_aes.specs.Field.{double, product, sbox}

-- A state, a block and a round key are 16 bytes: four columns of four bytes, one column after another (3.4).

-- the byte in row r of column c
abbrev pub cell : List ℕ → ℕ → ℕ → ℕ
cell s r c = slice_index s (r + 4 * c)

-- the state whose byte in row r of column c is f r c
abbrev pub state : (ℕ → ℕ → ℕ) → List ℕ
state f = map (λ i. f (i % 4) (i / 4)) (range_with_len 0 16)

-- SubBytes (5.1.1)
abbrev pub sub_bytes : List ℕ → List ℕ
sub_bytes s = state (λ r c. sbox (cell s r c))

-- ShiftRows: row r turns left by r (5.1.2)
abbrev pub shift_rows : List ℕ → List ℕ
shift_rows s = state (λ r c. cell s r ((c + r) % 4))

-- MixColumns: each column is multiplied by the matrix with first row 2, 3, 1, 1, in which each row is the one above it, turned
-- right by one. So a byte becomes 2 times itself, 3 times the byte below it, and the two others, added (5.1.3).
abbrev pub mix_columns : List ℕ → List ℕ
mix_columns s = state (λ r c. let at = λ (j : ℕ). cell s ((r + j) % 4) c in
    bit_xor (bit_xor (bit_xor (product 2 (at 0)) (product 3 (at 1))) (at 2)) (at 3))

-- AddRoundKey (5.1.4)
abbrev pub add_round_key : List ℕ → List ℕ → List ℕ
add_round_key s k = state (λ r c. bit_xor (cell s r c) (cell k r c))

-- a round under its key (5.1), and the last one
abbrev pub round : List ℕ → List ℕ → List ℕ
round s k = add_round_key (mix_columns (shift_rows (sub_bytes s))) k

-- the last round, which does not mix (5.1)
abbrev pub last_round : List ℕ → List ℕ → List ℕ
last_round s k = add_round_key (shift_rows (sub_bytes s)) k

-- the constant of round key r + 1: x^r (5.2)
unfoldable pub round_constant : ℕ → ℕ
round_constant zero = 1
round_constant (suc r) = double (round_constant r)

-- byte r of what column 0 of the next round key adds: the last column, turned up by one byte and sent through
-- the S-box, with the round constant x added to its first byte (5.2)
abbrev pub turned_byte : List ℕ → ℕ → ℕ → ℕ
turned_byte k x r = let b = sbox (cell k ((r + 1) % 4) 3) in if r == 0 then bit_xor b x else b

-- byte r of column c of the next round key: each column is the one four before it plus the one just before it,
-- which for column 0 is turned (5.2)
abbrev pub next_key_byte : List ℕ → ℕ → ℕ → ℕ → ℕ
next_key_byte k x r zero = bit_xor (cell k r 0) (turned_byte k x r)
next_key_byte k x r (suc c) = bit_xor (cell k r (suc c)) (next_key_byte k x r c)

-- the four words of the key schedule after the four words k (5.2)
abbrev pub next_key : List ℕ → ℕ → List ℕ
next_key k x = state (next_key_byte k x)

-- the round keys 0 to 10: the key and what follows from it (5.2)
unfoldable pub round_key : List ℕ → ℕ → List ℕ
round_key key zero = key
round_key key (suc r) = next_key (round_key key r) (round_constant r)

-- the state after the first round key and r rounds (5.1)
unfoldable pub after_rounds : List ℕ → List ℕ → ℕ → List ℕ
after_rounds key block zero = add_round_key block (round_key key 0)
after_rounds key block (suc r) = round (after_rounds key block r) (round_key key (suc r))

-- the ciphertext of a block under a key: nine rounds and the last (5.1)
unfoldable pub aes : List ℕ → List ℕ → List ℕ
aes key block = last_round (after_rounds key block 9) (round_key key 10)
