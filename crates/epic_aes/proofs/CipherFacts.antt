-- What callers may need of the definitions.
use Rattle.std.proofs.Common.{◌≡◌, ℕ, List, length, refl}
use Rattle.epic_aes.specs.Cipher.{aes}

-- a ciphertext has 16 bytes
pub length-aes : (key block : List ℕ) → length (aes key block) ≡ 16
unfolding aes
length-aes key block = refl
