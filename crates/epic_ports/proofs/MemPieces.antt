-- Pieces of a file in memory.
use Rattle.std.proofs.Common.{◌≡◌, ◌+◌, ℕ, List, ◌++◌, length, min, take, drop, arith, sym, length-append, length-drop}
use Rattle.std.proofs.Math.Seq.{take-append_seam}
use Rattle.std.proofs.lemmas.List.{drop-drop, take-append-drop}
use Rattle.epic_ports.specs.Files.{GivesPiece}

-- as many bytes were copied as there are from `at` on, and as fit
pub copied : (bytes : List ℕ) (at n : ℕ) (piece buffer : List ℕ)
    → n ≡ min (length (drop at bytes)) (length buffer)
    → piece ≡ take n (drop at bytes)
    → length piece ≡ n
    → GivesPiece bytes at n (piece ++ drop n buffer)
copied bytes at n piece buffer count is len =
    let rest = drop at bytes in
    let front : take n (piece ++ drop n buffer) ≡ piece = rw (← len) (take-append_seam piece (drop (length piece) buffer)) in
    let back : drop (at + n) bytes ≡ drop n rest = sym (drop-drop n at bytes) in
    record {
      piece = rw (front, back, is) (sym (take-append-drop n rest));
      end = λ none some. omega (arith, length-append piece (drop n buffer), length-drop n buffer, length-drop at bytes);
    }
