-- The field of 256 elements in which AES computes (FIPS 197 4). The byte b stands for the polynomial
-- over two elements whose coefficient of x^i is bit i of b, taken modulo x^8 + x^4 + x^3 + x + 1. The
-- sum of two bytes is `bit_xor`.
use Rattle.std.specs.Prelude.{ℕ, zero, suc, ◌*◌, ◌/◌, ◌%◌, ◌==◌, nat_lt, bit_xor, if◌then◌else◌}
use Rattle.std.specs.Int.{w8, rotate_left}

-- b times x (4.2)
unfoldable pub double : ℕ → ℕ
double b = if nat_lt b 128 then 2 * b else bit_xor (2 * b) 0x11b

-- the lowest n bits of a, times b
unfoldable pub product_by_bits : ℕ → ℕ → ℕ → ℕ
product_by_bits zero a b = 0
product_by_bits (suc n) a b = bit_xor (if a % 2 == 1 then b else 0) (product_by_bits n (a / 2) (double b))

-- a times b (4.2)
unfoldable pub product : ℕ → ℕ → ℕ
product a b = product_by_bits 8 a b

-- b to the power 2^n - 2 for n from 1: with c the power before it, (b * c)^2
unfoldable pub inverse_power : ℕ → ℕ → ℕ
inverse_power zero b = 1
inverse_power (suc n) b = let c = product b (inverse_power n b) in product c c

-- the inverse of b, and 0 for 0: the power 254 (4.4)
unfoldable pub inverse : ℕ → ℕ
inverse b = inverse_power 7 b

-- bit i is the sum of the bits i, i + 4, i + 5, i + 6 and i + 7 of b, modulo 8, and of bit i of 0x63 (5.1.1)
unfoldable pub affine_image : ℕ → ℕ
affine_image b =
    bit_xor (bit_xor (bit_xor (bit_xor (bit_xor b (rotate_left w8 b 4)) (rotate_left w8 b 3)) (rotate_left w8 b 2)) (rotate_left w8 b 1)) 0x63

-- the S-box (5.1.1)
unfoldable pub sbox : ℕ → ℕ
sbox b = affine_image (inverse b)
