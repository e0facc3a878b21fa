-- The parts of sound bytes lie within them.
use Rattle.std.proofs.Common.{ℕ, ◌+◌, ◌*◌, ◌<◌, ◌≤◌, List, length, mul-le-mul_right, arith}
use Rattle.std.proofs.lemmas.Bool.{cond_both}
use Rattle.std.proofs.Math.Nat.{mul-le-mul_left}
use Rattle.std.specs.Prelude.{nat_lt}
use Rattle.epic_num.specs.Levels.{width_of, is_tagged}
use Rattle.epic_layout.specs.Pieces.{byte}
use Rattle.epic_layout.specs.Contents.{segment_offset, dest_len}
use Rattle.epic_layout.specs.Layout.{hops_in, hop_len, hop_offset, dest_offset, header_len_in}
use Rattle.epic_layout.specs.Sound.{IsSound}

pub width_least : (f : ℕ) → 3 ≤ width_of f
unfolding width_of
width_least f = cond_both (nat_lt f 0xF0) 3 6 (λ w. 3 ≤ w) (λ _. omega arith) (λ _. omega arith)

pub width_most : (f : ℕ) → width_of f ≤ 6
unfolding width_of
width_most f = cond_both (nat_lt f 0xF0) 3 6 (λ w. w ≤ 6) (λ _. omega arith) (λ _. omega arith)

pub dest_len_most : (f : ℕ) → dest_len f ≤ 16
unfolding dest_len
dest_len_most f = cond_both (is_tagged f) 16 0 (λ w. w ≤ 16) (λ _. omega arith) (λ _. omega arith)

-- a row ends where the next begins, and so before the end of all rows
pub row_within : (base w j n : ℕ) → j < n → base + w * j + w ≤ base + w * n
row_within base w j n h = let more : j + 1 ≤ n = omega arith in omega (arith, mul-le-mul_left w more)

pub hop_within : (b : List ℕ) (j : ℕ) → j < hops_in b → hop_offset b j + hop_len b ≤ dest_offset b
unfolding hop_offset
hop_within b j h = row_within (segment_offset (byte b 6)) (hop_len b) j (hops_in b) h

pub hop_there : (b : List ℕ) (j : ℕ) → IsSound b → j < hops_in b → hop_offset b j + hop_len b ≤ length b
unfolding header_len_in
hop_there b j s h = omega (arith, hop_within b j h, s.header_there)

-- rows are few and narrow
pub rows_fit : (w n : ℕ) → w ≤ 19 → n ≤ 48 → w * n ≤ 912
rows_fit w n narrow few = omega (arith, mul-le-mul_left w few, mul-le-mul_right 48 narrow)
