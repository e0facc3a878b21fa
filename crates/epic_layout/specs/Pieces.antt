-- Bytes and big-endian numbers at a place of a list of bytes.
use Rattle.std.specs.Prelude.{ℕ, List, take, drop, slice_index}
use Rattle.std.specs.Int.{Width, from_be_bytes, byte_len}

-- the byte at a place, and 0 past the end
abbrev pub byte : List ℕ → ℕ → ℕ
byte bytes at = slice_index bytes at

-- n bytes from a place on
abbrev pub piece : List ℕ → ℕ → ℕ → List ℕ
piece bytes at n = take n (drop at bytes)

-- the big-endian number of a width from a place on
unfoldable pub number : Width → List ℕ → ℕ → ℕ
number w bytes at = from_be_bytes w (piece bytes at (byte_len w))
