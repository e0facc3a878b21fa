-- The blocks of a message, and the tag from the chain before the last of them.
use Rattle.std.proofs.Common.{◌≡◌, ℕ, zero, suc, ◌+◌, ◌-◌, ◌*◌, ◌/◌, ◌<◌, ◌≤◌, List, [], ◌∷◌, ◌++◌, length, take, drop, length-drop, refl, ap, sym, ◌∙◌, zero-add, add-zero, arith}
use Rattle.std.specs.Simd.{first_chunks}
use Rattle.std.proofs.lemmas.List.{take-take, drop-take, drop-drop}
use Rattle.std.proofs.Math.Seq.{take-append_seam}
use Rattle.epic_aes.specs.Cipher.{aes}
use Rattle.epic_aes.specs.Chain.{block_sum, chain}
use Rattle.epic_aes.proofs.ChainLemmas.{chain-append, chain-one}
use Rattle.epic_cmac.specs.Cmac.{zero_block, last_block, count_before_last, blocks, cmac}

-- the first k blocks lie within any prefix that is long enough
pub first_chunks-take : (k more : ℕ) (m : List ℕ) → first_chunks 16 k (take (16 * k + more) m) ≡ first_chunks 16 k m
first_chunks-take zero more m = refl
first_chunks-take (suc k) more m =
    let longer : 16 * suc k + more ≡ 16 + (16 * k + more) = omega arith in
    let within : 16 ≤ 16 + (16 * k + more) = omega arith in
    ap (λ n. first_chunks 16 (suc k) (take n m)) longer
    ∙ (λ i. take-take 16 (16 + (16 * k + more)) m within i
    ∷ (ap (first_chunks 16 k) (drop-take 16 (16 * k + more) m) ∙ first_chunks-take k more (drop 16 m)) i)

-- the first k blocks lie within a message that is long enough, whatever follows it
pub first_chunks-append : (k : ℕ) (m more : List ℕ) → 16 * k ≤ length m → first_chunks 16 k (m ++ more) ≡ first_chunks 16 k m
first_chunks-append k m more fits =
    let whole : 16 * k + (length m - 16 * k) ≡ length m = omega arith in
    sym (first_chunks-take k (length m - 16 * k) (m ++ more))
    ∙ ap (λ n. first_chunks 16 k (take n (m ++ more))) whole
    ∙ ap (first_chunks 16 k) (take-append_seam m more)

-- all blocks of a prefix
pub first_chunks-front : (m front : List ℕ) (found : List (List ℕ)) (count : ℕ) → front ≡ take (16 * count) m →
    length front ≡ 16 * count → found ≡ first_chunks 16 (length front / 16) front → found ≡ first_chunks 16 count m
first_chunks-front m front found count prefix long cut =
    let times : length front / 16 ≡ count = omega arith in
    cut
    ∙ (λ i. first_chunks 16 (times i) (prefix i))
    ∙ ap (λ n. first_chunks 16 count (take n m)) (sym (add-zero (16 * count)))
    ∙ first_chunks-take count 0 m

-- the first j + k blocks are the first j and the k after them
pub first_chunks-add : (j k : ℕ) (m : List ℕ) →
    first_chunks 16 (j + k) m ≡ first_chunks 16 j m ++ first_chunks 16 k (drop (16 * j) m)
first_chunks-add zero k m = ap (λ n. first_chunks 16 n m) (zero-add k)
first_chunks-add (suc j) k m =
    let count : suc j + k ≡ suc (j + k) = omega arith in
    let place : 16 + 16 * j ≡ 16 * suc j = omega arith in
    let left : drop (16 * j) (drop 16 m) ≡ drop (16 * suc j) m = drop-drop (16 * j) 16 m ∙ ap (λ n. drop n m) place in
    ap (λ n. first_chunks 16 n m) count
    ∙ (λ i. take 16 m ∷ (first_chunks-add j k (drop 16 m)
    ∙ ap (λ rest. first_chunks 16 j (drop 16 m) ++ first_chunks 16 k rest) left) i)

-- the chain over all blocks of a message, from the chain over those before the last and from the bytes of the last
pub chain-blocks : (key message x y rest : List ℕ) (count : ℕ) → count ≡ count_before_last message →
    y ≡ chain key x (first_chunks 16 count message) → rest ≡ drop (16 * count) message →
    aes key (block_sum y (last_block key rest)) ≡ chain key x (blocks key message)
unfolding blocks
chain-blocks key message x y rest count before state left =
    (λ i. aes key (block_sum (state i) (last_block key (left i))))
    ∙ sym (chain-one key (chain key x (first_chunks 16 count message)) (last_block key (drop (16 * count) message)))
    ∙ sym (chain-append key x (first_chunks 16 count message) (last_block key (drop (16 * count) message) ∷ []))
    ∙ (λ i. chain key x (first_chunks 16 (before i) message ++ last_block key (drop (16 * before i) message) ∷ []))

-- the tag, from the same
pub tag-cmac : (key message x rest : List ℕ) (count : ℕ) → count ≡ count_before_last message →
    x ≡ chain key zero_block (first_chunks 16 count message) → rest ≡ drop (16 * count) message →
    aes key (block_sum x (last_block key rest)) ≡ cmac key message
unfolding cmac
tag-cmac key message x rest count before state left = chain-blocks key message zero_block x rest count before state left

-- the blocks of a message of more than one: the first, and those of the rest
pub blocks-more : (key message : List ℕ) → 16 < length message → blocks key message ≡ take 16 message ∷ blocks key (drop 16 message)
unfolding blocks
blocks-more key message more =
    let dropped = length-drop 16 message in
    let count = count_before_last (drop 16 message) in
    let longer : count_before_last message ≡ suc count = omega arith in
    let place : 16 + 16 * count ≡ 16 * suc count = omega arith in
    let left : drop (16 * suc count) message ≡ drop (16 * count) (drop 16 message) =
    ap (λ n. drop n message) (sym place) ∙ sym (drop-drop (16 * count) 16 message) in
    ap (λ n. first_chunks 16 n message ++ last_block key (drop (16 * n) message) ∷ []) longer
    ∙ ap (λ bytes. first_chunks 16 (suc count) message ++ last_block key bytes ∷ []) left

-- the tag of a message of more than one block, from the chain after the first
pub tag-rest : (key message x rest : List ℕ) → 16 < length message →
    x ≡ aes key (block_sum zero_block (take 16 message)) → rest ≡ drop 16 message → chain key x (blocks key rest) ≡ cmac key message
unfolding cmac
tag-rest key message x rest more state left =
    (λ i. chain key (state i) (blocks key (left i)))
    ∙ ap (λ y. chain key y (blocks key (drop 16 message))) (sym (chain-one key zero_block (take 16 message)))
    ∙ sym (chain-append key zero_block (take 16 message ∷ []) (blocks key (drop 16 message)))
    ∙ ap (chain key zero_block) (sym (blocks-more key message more))

-- the same where the rest is the last block
pub tag-two : (key message x rest : List ℕ) → 16 < length message → length message ≤ 32 →
    x ≡ aes key (block_sum zero_block (take 16 message)) → rest ≡ drop 16 message →
    aes key (block_sum x (last_block key rest)) ≡ cmac key message
tag-two key message x rest more most state left =
    let count : 1 ≡ count_before_last message = omega arith in
    tag-cmac key message x rest 1 count (state ∙ sym (chain-one key zero_block (take 16 message))) left
