-- The examples of RFC 4493 4, by computing: a wrong step or constant in the definitions does not check.
use Rattle.std.proofs.Common.{◌≡◌, ℕ, List, [], ◌∷◌, take, refl}
use Rattle.epic_aes.specs.Field.{double, product_by_bits, product, inverse_power, inverse, affine_image, sbox}
use Rattle.epic_aes.specs.Cipher.{round_constant, round_key, after_rounds, aes}
use Rattle.epic_aes.specs.Chain.{block_sum, chain}
use Rattle.epic_cmac.specs.Cmac.{block_double, first_subkey, second_subkey, last_block, blocks, cmac}

-- the key, and the message of whose first bytes the tags are
abbrev example_key : List ℕ
example_key = 0x2b ∷ 0x7e ∷ 0x15 ∷ 0x16 ∷ 0x28 ∷ 0xae ∷ 0xd2 ∷ 0xa6 ∷ 0xab ∷ 0xf7 ∷ 0x15 ∷ 0x88 ∷ 0x09 ∷ 0xcf ∷ 0x4f ∷ 0x3c ∷ []

abbrev example_message : List ℕ
example_message =
    0x6b ∷ 0xc1 ∷ 0xbe ∷ 0xe2 ∷ 0x2e ∷ 0x40 ∷ 0x9f ∷ 0x96 ∷ 0xe9 ∷ 0x3d ∷ 0x7e ∷ 0x11 ∷ 0x73 ∷ 0x93 ∷ 0x17 ∷ 0x2a ∷ 0xae ∷ 0x2d ∷ 0x8a ∷ 0x57 ∷ 0x1e ∷ 0x03 ∷ 0xac ∷ 0x9c ∷ 0x9e ∷ 0xb7 ∷ 0x6f ∷ 0xac ∷ 0x45 ∷ 0xaf ∷ 0x8e ∷ 0x51 ∷ 0x30 ∷ 0xc8 ∷ 0x1c ∷ 0x46 ∷ 0xa3 ∷ 0x5c ∷ 0xe4 ∷ 0x11 ∷ 0xe5 ∷ 0xfb ∷ 0xc1 ∷ 0x19 ∷ 0x1a ∷ 0x0a ∷ 0x52 ∷ 0xef ∷ 0xf6 ∷ 0x9f ∷ 0x24 ∷ 0x45 ∷ 0xdf ∷ 0x4f ∷ 0x9b ∷ 0x17 ∷ 0xad ∷ 0x2b ∷ 0x41 ∷ 0x7b ∷ 0xe6 ∷ 0x6c ∷ 0x37 ∷ 0x10 ∷ []

-- 0 bytes
pub cmac-example_0 : cmac example_key (take 0 example_message) ≡ 0xbb ∷ 0x1d ∷ 0x69 ∷ 0x29 ∷ 0xe9 ∷ 0x59 ∷ 0x37 ∷ 0x28 ∷ 0x7f ∷ 0xa3 ∷ 0x7d ∷ 0x12 ∷ 0x9b ∷ 0x75 ∷ 0x67 ∷ 0x46 ∷ []
unfolding double product_by_bits product inverse_power inverse affine_image sbox round_constant round_key after_rounds aes block_sum chain block_double first_subkey second_subkey last_block blocks cmac
cmac-example_0 = refl

-- 16 bytes
pub cmac-example_16 : cmac example_key (take 16 example_message) ≡ 0x07 ∷ 0x0a ∷ 0x16 ∷ 0xb4 ∷ 0x6b ∷ 0x4d ∷ 0x41 ∷ 0x44 ∷ 0xf7 ∷ 0x9b ∷ 0xdd ∷ 0x9d ∷ 0xd0 ∷ 0x4a ∷ 0x28 ∷ 0x7c ∷ []
unfolding double product_by_bits product inverse_power inverse affine_image sbox round_constant round_key after_rounds aes block_sum chain block_double first_subkey second_subkey last_block blocks cmac
cmac-example_16 = refl

-- 40 bytes
pub cmac-example_40 : cmac example_key (take 40 example_message) ≡ 0xdf ∷ 0xa6 ∷ 0x67 ∷ 0x47 ∷ 0xde ∷ 0x9a ∷ 0xe6 ∷ 0x30 ∷ 0x30 ∷ 0xca ∷ 0x32 ∷ 0x61 ∷ 0x14 ∷ 0x97 ∷ 0xc8 ∷ 0x27 ∷ []
unfolding double product_by_bits product inverse_power inverse affine_image sbox round_constant round_key after_rounds aes block_sum chain block_double first_subkey second_subkey last_block blocks cmac
cmac-example_40 = refl

-- 64 bytes
pub cmac-example_64 : cmac example_key (take 64 example_message) ≡ 0x51 ∷ 0xf0 ∷ 0xbe ∷ 0xbf ∷ 0x7e ∷ 0x3b ∷ 0x9d ∷ 0x92 ∷ 0xfc ∷ 0x49 ∷ 0x74 ∷ 0x17 ∷ 0x79 ∷ 0x36 ∷ 0x3c ∷ 0xfe ∷ []
unfolding double product_by_bits product inverse_power inverse affine_image sbox round_constant round_key after_rounds aes block_sum chain block_double first_subkey second_subkey last_block blocks cmac
cmac-example_64 = refl
