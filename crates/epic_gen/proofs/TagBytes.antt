-- A tag is a list of bytes, where its key and its block are.
use Rattle.std.proofs.Common.{◌≡◌, ℕ, zero, suc, ◌+◌, ◌*◌, ◌/◌, ◌%◌, ◌^◌, ◌<◌, ◌≤◌, ◌==◌, Bool, true, false, cond, nat_lt, List, [], ◌∷◌, length, map, get_or, bit_xor, refl, ap, sym, subst, ◌∙◌, zero-add, arith}
use Rattle.std.specs.List.{range_with_len}
use Rattle.std.proofs.lemmas.Bool.{cond_both, ltb-true}
use Rattle.std.proofs.lemmas.Bool.Decides.{nat_tests}
use Rattle.std.proofs.lemmas.List.{get_or_past}
use Rattle.std.proofs.lemmas.List.FromFn.{get_or-map-range_with_len, length-map-range_with_len}
use Rattle.std.proofs.lemmas.Nat.{xor_of_8}
use Rattle.hex.specs.Hex.{IsBytes}
use Rattle.epic_aes.specs.Chain.{block_sum}
use Rattle.epic_aes.specs.Cipher.{add_round_key, aes, after_rounds, cell, last_round, mix_columns, next_key, next_key_byte, round, round_constant, round_key, shift_rows, state, sub_bytes, turned_byte}
use Rattle.epic_aes.specs.Field.{affine_image, double, inverse, inverse_power, product, product_by_bits, sbox}

-- a function that gives a byte of each byte, by computing
byte_of_byte : (f : ℕ → ℕ) → map (λ b. nat_lt (f b) 256) (range_with_len 0 256) ≡ map (λ b. true) (range_with_len 0 256)
    → (b : ℕ) → b < 256 → f b < 256
byte_of_byte f all b below =
    ltb-true (f b) 256
    (sym (get_or-map-range_with_len (λ x. nat_lt (f x) 256) 0 256 b b true below (zero-add b))
    ∙ ap (λ xs. get_or xs b true) all
    ∙ get_or-map-range_with_len (λ x. true) 0 256 b b true below (zero-add b))

double_byte : (b : ℕ) → b < 256 → double b < 256
unfolding double
double_byte = byte_of_byte double refl

two_byte : (b : ℕ) → b < 256 → product 2 b < 256
unfolding double product_by_bits product
two_byte = byte_of_byte (product 2) refl

three_byte : (b : ℕ) → b < 256 → product 3 b < 256
unfolding double product_by_bits product
three_byte = byte_of_byte (product 3) refl

sbox_byte : (b : ℕ) → b < 256 → sbox b < 256
unfolding double product_by_bits product inverse_power inverse affine_image sbox
sbox_byte = byte_of_byte sbox refl

xor_byte : (a b : ℕ) → a < 256 → b < 256 → bit_xor a b < 256
xor_byte a b = xor_of_8 a b

-- a state whose cells are bytes
state_bytes : (f : ℕ → ℕ → ℕ) → ((r c : ℕ) → f r c < 256) → IsBytes (state f)
state_bytes f each i = by (nat_lt i 16) refl
  where
    g : ℕ → ℕ
    g j = f (j % 4) (j / 4)

    past : nat_lt i 16 ≡ false → length (state f) ≤ i
    past e = grind (arith, nat_tests)

    by : (b : Bool) → nat_lt i 16 ≡ b → get_or (state f) i 0 < 256
    by true e =
        subst (λ n. n < 256) (sym (get_or-map-range_with_len g 0 16 i i 0 (ltb-true i 16 e) (zero-add i))) (each (i % 4) (i / 4))
    by false e =
        subst (λ n. n < 256) (sym (get_or_past (state f) i 0 (past e))) (omega arith)

-- ---- rounds

sub_bytes_are : (s : List ℕ) → IsBytes s → IsBytes (sub_bytes s)
sub_bytes_are s h = state_bytes (λ r c. sbox (cell s r c)) (λ r c. sbox_byte (cell s r c) (h (r + 4 * c)))

shift_rows_are : (s : List ℕ) → IsBytes s → IsBytes (shift_rows s)
shift_rows_are s h = state_bytes (λ r c. cell s r ((c + r) % 4)) (λ r c. h (r + 4 * ((c + r) % 4)))

mix_columns_are : (s : List ℕ) → IsBytes s → IsBytes (mix_columns s)
mix_columns_are s h = state_bytes _ (λ r c.
    let at = λ (j : ℕ). cell s ((r + j) % 4) c in
    let is = λ (j : ℕ). h ((r + j) % 4 + 4 * c) in
    xor_byte (bit_xor (bit_xor (product 2 (at 0)) (product 3 (at 1))) (at 2)) (at 3)
    (xor_byte (bit_xor (product 2 (at 0)) (product 3 (at 1))) (at 2)
    (xor_byte (product 2 (at 0)) (product 3 (at 1)) (two_byte (at 0) (is 0)) (three_byte (at 1) (is 1))) (is 2)) (is 3))

add_round_key_are : (s k : List ℕ) → IsBytes s → IsBytes k → IsBytes (add_round_key s k)
add_round_key_are s k h i =
    state_bytes (λ r c. bit_xor (cell s r c) (cell k r c)) (λ r c. xor_byte (cell s r c) (cell k r c) (h (r + 4 * c)) (i (r + 4 * c)))

round_constant_is : (r : ℕ) → round_constant r < 256
unfolding round_constant
round_constant_is zero = omega arith
round_constant_is (suc r) = double_byte (round_constant r) (round_constant_is r)

turned_byte_is : (k : List ℕ) (x r : ℕ) → IsBytes k → x < 256 → turned_byte k x r < 256
turned_byte_is k x r h low =
    let b = sbox (cell k ((r + 1) % 4) 3) in
    let is : b < 256 = sbox_byte (cell k ((r + 1) % 4) 3) (h ((r + 1) % 4 + 4 * 3)) in
    cond_both (r == 0) (bit_xor b x) b (λ n. n < 256) (λ e. xor_byte b x is low) (λ e. is)

next_key_byte_is : (k : List ℕ) (x r c : ℕ) → IsBytes k → x < 256 → next_key_byte k x r c < 256
next_key_byte_is k x r zero h low = xor_byte (cell k r 0) (turned_byte k x r) (h (r + 4 * 0)) (turned_byte_is k x r h low)
next_key_byte_is k x r (suc c) h low =
    xor_byte (cell k r (suc c)) (next_key_byte k x r c) (h (r + 4 * suc c)) (next_key_byte_is k x r c h low)

round_key_are : (key : List ℕ) (r : ℕ) → IsBytes key → IsBytes (round_key key r)
unfolding round_key
round_key_are key zero h = h
round_key_are key (suc r) h =
    state_bytes (next_key_byte (round_key key r) (round_constant r))
    (λ q c. next_key_byte_is (round_key key r) (round_constant r) q c (round_key_are key r h) (round_constant_is r))

after_rounds_are : (key block : List ℕ) (r : ℕ) → IsBytes key → IsBytes block → IsBytes (after_rounds key block r)
unfolding after_rounds
after_rounds_are key block zero h i = add_round_key_are block (round_key key 0) i (round_key_are key 0 h)
after_rounds_are key block (suc r) h i =
    let s = after_rounds key block r in
    add_round_key_are (mix_columns (shift_rows (sub_bytes s))) (round_key key (suc r))
    (mix_columns_are (shift_rows (sub_bytes s)) (shift_rows_are (sub_bytes s) (sub_bytes_are s (after_rounds_are key block r h i))))
    (round_key_are key (suc r) h)

-- ---- ciphertexts

pub aes_bytes : (key block : List ℕ) → IsBytes key → IsBytes block → IsBytes (aes key block)
unfolding aes
aes_bytes key block h i =
    let s = after_rounds key block 9 in
    add_round_key_are (shift_rows (sub_bytes s)) (round_key key 10)
    (shift_rows_are (sub_bytes s) (sub_bytes_are s (after_rounds_are key block 9 h i))) (round_key_are key 10 h)

pub block_sum_bytes : (a b : List ℕ) → IsBytes a → IsBytes b → IsBytes (block_sum a b)
unfolding block_sum
block_sum_bytes a b h i = add_round_key_are a b h i
