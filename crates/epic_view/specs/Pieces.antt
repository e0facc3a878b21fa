-- Private: serves proofs of this crate alone; no public contract cites it.
-- Bytes with a part of them replaced.
use Rattle.std.specs.Prelude.{ℕ, zero, suc, ◌+◌, ◌*◌, List, [], ◌++◌, length, take, drop}
use Rattle.epic_layout.specs.Layout.{hops_in, hop_offset}
use Rattle.epic_layout.specs.Pieces.{byte, piece}

-- the bytes with others from a place on
unfoldable pub with_piece : List ℕ → ℕ → List ℕ → List ℕ
with_piece bytes at piece = take at bytes ++ (piece ++ drop (at + length piece) bytes)

-- the bytes of so many hops from hop i on, without their fields
abbrev pub hop_rows : List ℕ → ℕ → ℕ → List ℕ
hop_rows bytes i zero = []
hop_rows bytes i (suc n) = piece bytes (hop_offset bytes i) 13 ++ hop_rows bytes (i + 1) n

-- the path bytes behind the number of segments
unfoldable pub path_rest : List ℕ → List ℕ
path_rest bytes = piece bytes 40 (8 * byte bytes 6) ++ hop_rows bytes 0 (hops_in bytes)
