-- What a state holds, at the start and after each kind of piece.
use Rattle.std.proofs.Common.{◌≡◌, ℕ, suc, ◌+◌, ◌-◌, ◌*◌, ◌/◌, ◌<◌, ◌≤◌, List, [], ◌∷◌, ◌++◌, length, take, drop, refl, ap, sym, ◌∙◌, lit≤, arith, append_assoc, length-append, length-drop}
use Rattle.std.specs.Simd.{first_chunks}
use Rattle.std.proofs.lemmas.List.{drop-drop, drop-append-le, take-append-drop, take_all}
use Rattle.std.proofs.Math.Seq.{take-append_seam, drop-append_seam}
use Rattle.epic_aes.specs.Chain.{chain}
use Rattle.epic_aes.proofs.ChainLemmas.{chain_none, chain-append}
use Rattle.epic_cmac.specs.Cmac.{zero_block, count_before_last}
use Rattle.epic_cmac.specs.Pieces.{IsHeld}
use Rattle.epic_cmac.proofs.BlockLemmas.{first_chunks-add, first_chunks-append}

pub held_empty : (key buffer : List ℕ) → IsHeld key zero_block buffer 0 []
held_empty key buffer = record {
  room = lit≤ tt;
  long = refl;
  taken = sym (chain_none key zero_block []);
  left = refl;
}

-- a piece that the buffer has room for
pub held_put : (key x buffer after message piece : List ℕ) (used : ℕ) →
    IsHeld key x buffer used message → used + length piece ≤ 16 → take (used + length piece) after ≡ take used buffer ++ piece →
    IsHeld key x after (used + length piece) (message ++ piece)
held_put key x buffer after message piece used held fits put =
    let count = count_before_last message in
    let total = length-append message piece in
    let before = held.long in
    let same : count ≡ count_before_last (message ++ piece) = omega arith in
    let within : 16 * count ≤ length message = omega arith in
    record {
      room = fits;
      long = omega arith;
      taken = held.taken
          ∙ ap (chain key zero_block) (sym (first_chunks-append count message piece within)
          ∙ ap (λ n. first_chunks 16 n (message ++ piece)) same);
      left = put
          ∙ ap (λ bytes. bytes ++ piece) held.left
          ∙ sym (drop-append-le (16 * count) message piece within)
          ∙ ap (λ n. drop (16 * n) (message ++ piece)) same;
    }

-- a block, and then the rest of a message
two_parts : (full rest : List ℕ) (count : ℕ) → length full ≡ 16 →
    first_chunks 16 (suc count) (full ++ rest) ≡ full ∷ first_chunks 16 count rest
two_parts full rest count long =
    let front : take 16 (full ++ rest) ≡ full = ap (λ n. take n (full ++ rest)) (sym long) ∙ take-append_seam full rest in
    let back : drop 16 (full ++ rest) ≡ rest = ap (λ n. drop n (full ++ rest)) (sym long) ∙ drop-append_seam full rest in
    λ i. front i ∷ first_chunks 16 count (back i)

-- the chain takes a whole buffer and the blocks of the rest before the last
pub held_blocks : (key x y buffer message full rest last : List ℕ) (count more : ℕ) →
    x ≡ chain key zero_block (first_chunks 16 count message) →
    drop (16 * count) message ≡ full ++ rest → length full ≡ 16 → 0 < length rest → more ≡ (length rest - 1) / 16 →
    y ≡ chain key (chain key x (full ∷ [])) (first_chunks 16 more rest) →
    last ≡ drop (16 * more) rest → take (length last) buffer ≡ last →
    IsHeld key y buffer (length last) message
held_blocks key x y buffer message full rest last count more state left whole some cut step end kept =
    let after = ap length left in
    let parts = length-append full rest in
    let dropped = length-drop (16 * count) message in
    let tail = ap length end in
    let shorter = length-drop (16 * more) rest in
    let same : count + suc more ≡ count_before_last message = omega arith in
    let blocks : first_chunks 16 (count_before_last message) message ≡ first_chunks 16 count message ++ (full ∷ first_chunks 16 more rest) =
    ap (λ n. first_chunks 16 n message) (sym same)
    ∙ first_chunks-add count (suc more) message
    ∙ ap (λ bytes. first_chunks 16 count message ++ first_chunks 16 (suc more) bytes) left
    ∙ ap (λ list. first_chunks 16 count message ++ list) (two_parts full rest more whole) in
    let place : 16 * count + (length full + 16 * more) ≡ 16 * count_before_last message = omega arith in
    let rests : drop (16 * count_before_last message) message ≡ drop (16 * more) rest =
    ap (λ n. drop n message) (sym place)
    ∙ sym (drop-drop (length full + 16 * more) (16 * count) message)
    ∙ ap (drop (length full + 16 * more)) left
    ∙ sym (drop-drop (16 * more) (length full) (full ++ rest))
    ∙ ap (drop (16 * more)) (drop-append_seam full rest) in
    record {
      room = omega arith;
      long = omega arith;
      taken = step
          ∙ sym (chain-append key x (full ∷ []) (first_chunks 16 more rest))
          ∙ ap (λ z. chain key z (full ∷ first_chunks 16 more rest)) state
          ∙ sym (chain-append key zero_block (first_chunks 16 count message) (full ∷ first_chunks 16 more rest))
          ∙ ap (chain key zero_block) (sym blocks);
      left = kept ∙ end ∙ sym rests;
    }

-- a piece that fills the buffer, with more behind it
pub held_spill : (key x y z buffer full after message piece front rest last : List ℕ) (used more : ℕ) →
    IsHeld key x buffer used message → 16 < used + length piece →
    front ≡ take (16 - used) piece → rest ≡ drop (16 - used) piece → length front ≡ 16 - used → length rest + (16 - used) ≡ length piece →
    take (used + length front) full ≡ take used buffer ++ front → length full ≡ 16 → y ≡ chain key x (full ∷ []) →
    more ≡ (length rest - 1) / 16 → z ≡ chain key y (first_chunks 16 more rest) →
    last ≡ drop (16 * more) rest → take (length last) after ≡ last →
    IsHeld key z after (length last) (message ++ piece)
held_spill key x y z buffer full after message piece front rest last used more held over front_is rest_is front_len rest_len filled whole first cut second end kept =
    let count = count_before_last message in
    let before = held.long in
    let room = held.room in
    let within : 16 * count ≤ length message = omega arith in
    let some : 0 < length rest = omega arith in
    let all : used + length front ≡ 16 = omega arith in
    let short : length full ≤ 16 = omega arith in
    let joined : piece ≡ front ++ rest = sym (take-append-drop (16 - used) piece) ∙ (λ i. sym front_is i ++ sym rest_is i) in
    let full_is : full ≡ take used buffer ++ front = sym (take_all 16 full short) ∙ ap (λ n. take n full) (sym all) ∙ filled in
    let left : drop (16 * count) (message ++ piece) ≡ full ++ rest =
    drop-append-le (16 * count) message piece within
    ∙ (λ i. sym held.left i ++ joined i)
    ∙ sym (append_assoc (take used buffer) front rest)
    ∙ ap (λ bytes. bytes ++ rest) (sym full_is) in
    held_blocks key x z after (message ++ piece) full rest last count more
    (held.taken ∙ ap (chain key zero_block) (sym (first_chunks-append count message piece within)))
    left whole some cut (second ∙ ap (λ w. chain key w (first_chunks 16 more rest)) first) end kept
