-- Sums of bits in another order.
use Rattle.std.proofs.Common.{◌≡◌, ℕ, bit_xor, ap, sym, ◌∙◌}
use Rattle.std.proofs.lemmas.Nat.{xor_comm}
use lib.Bits.{xor_assoc}

xor_swap : (a b c : ℕ) → bit_xor a (bit_xor b c) ≡ bit_xor b (bit_xor a c)
xor_swap a b c = sym (xor_assoc a b c) ∙ ap (λ n. bit_xor n c) (xor_comm a b) ∙ xor_assoc b a c

pub xor_medial : (a b c d : ℕ) → bit_xor (bit_xor a b) (bit_xor c d) ≡ bit_xor (bit_xor a c) (bit_xor b d)
xor_medial a b c d = xor_assoc a b (bit_xor c d) ∙ ap (bit_xor a) (xor_swap b c d) ∙ sym (xor_assoc a c (bit_xor b d))

pub xor_last : (a k : ℕ) → bit_xor (bit_xor a 0x63) k ≡ bit_xor a (bit_xor k 0x63)
xor_last a k = xor_assoc a 0x63 k ∙ ap (bit_xor a) (xor_comm 0x63 k)

-- the constants of the S-box gather in the round key
pub xor_mixed : (a b b' c d k : ℕ) →
    bit_xor (bit_xor (bit_xor (bit_xor b 0x63) k) (bit_xor (bit_xor b' 0xc6) (bit_xor d 0x63))) (bit_xor (bit_xor a 0xc6) (bit_xor c 0x63))
    ≡ bit_xor (bit_xor (bit_xor (bit_xor a (bit_xor b' b)) c) d) (bit_xor k 0x63)
xor_mixed a b b' c d k =
    (λ i. bit_xor (bit_xor (first i) (xor_medial b' 0xc6 d 0x63 i)) (xor_medial a 0xc6 c 0x63 i))
    ∙ ap (λ n. bit_xor n (bit_xor (bit_xor a c) 0xa5)) (xor_medial (bit_xor b k) 0x63 (bit_xor b' d) 0xa5)
    ∙ xor_medial (bit_xor (bit_xor b k) (bit_xor b' d)) 0xc6 (bit_xor a c) 0xa5
    ∙ ap (λ n. bit_xor n 0x63) whole
    ∙ xor_assoc (bit_xor (bit_xor (bit_xor a (bit_xor b' b)) c) d) k 0x63
  where
    first : bit_xor (bit_xor b 0x63) k ≡ bit_xor (bit_xor b k) 0x63
    first = xor_last b k ∙ sym (xor_assoc b k 0x63)

    -- the key goes to the end
    key_last : bit_xor (bit_xor b k) (bit_xor b' d) ≡ bit_xor (bit_xor (bit_xor b' b) d) k
    key_last =
        xor_medial b k b' d
        ∙ (λ i. bit_xor (xor_comm b b' i) (xor_comm k d i))
        ∙ sym (xor_assoc (bit_xor b' b) d k)

    whole : bit_xor (bit_xor (bit_xor b k) (bit_xor b' d)) (bit_xor a c) ≡ bit_xor (bit_xor (bit_xor (bit_xor a (bit_xor b' b)) c) d) k
    whole =
        ap (λ n. bit_xor n (bit_xor a c)) key_last
        ∙ xor_comm (bit_xor (bit_xor (bit_xor b' b) d) k) (bit_xor a c)
        ∙ sym (xor_assoc (bit_xor a c) (bit_xor (bit_xor b' b) d) k)
        ∙ ap (λ n. bit_xor n k) (xor_medial a c (bit_xor b' b) d ∙ sym (xor_assoc (bit_xor a (bit_xor b' b)) c d))

-- a sum of three, the last two in the other order
pub xor_sum : (a k b : ℕ) → bit_xor a (bit_xor k b) ≡ bit_xor (bit_xor a b) k
xor_sum a k b = ap (bit_xor a) (xor_comm k b) ∙ sym (xor_assoc a b k)
