-- A message that comes in pieces: what a state stands for, and how it keeps that.
use Rattle.std.specs.Prelude.{◌≡◌, ℕ, ◌+◌, ◌*◌, ◌≤◌, List, length, take, drop}
use Rattle.std.specs.Simd.{first_chunks}
use Rattle.epic_aes.specs.Chain.{chain}
use Rattle.epic_cmac.specs.Cmac.{zero_block, count_before_last}

-- a key, and the bytes of all pieces so far, joined
pub record Fed : Type 0 where
  pub key : List ℕ
  pub message : List ℕ

-- The chain x has taken each block of a message before the last, and the first `used` bytes of the buffer are the last:
-- 1 to 16 bytes, or none of an empty message.
pub record IsHeld (key x buffer : List ℕ) (used : ℕ) (message : List ℕ) : Type 0 where
  pub room : used ≤ 16
  pub long : length message ≡ 16 * count_before_last message + used
  pub taken : x ≡ chain key zero_block (first_chunks 16 (count_before_last message) message)
  pub left : take used buffer ≡ drop (16 * count_before_last message) message
