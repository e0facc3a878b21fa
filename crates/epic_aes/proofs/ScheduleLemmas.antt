-- The key schedule on lanes, byte by byte.
use Rattle.std.proofs.Common.{◌≡◌, ℕ, zero, suc, ◌<◌, List, [], ◌∷◌, length, map, get_or, slice_index_or, bit_xor, refl, ap, ◌∙◌, lit<, arith}
use Rattle.std.specs.Int.{w8}
use Rattle.std.specs.Simd.Lanes.{Each1, zip2}
use Rattle.std.proofs.lemmas.Nat.{xor_comm, xor_of_8}
use lib.Bits.{xor_assoc, xor_zero_r}
use mir.Val.{Fits}
use Rattle.epic_aes.specs.Cipher.{next_key}
use Rattle.epic_aes.specs.Lanes.{entry, nibble_sum, byte_of, state_of, key_of}
use Rattle.epic_aes.specs.declared.tables.TheConstants.{LAST_WORD, ONE_COLUMN_ON, TWO_COLUMNS_ON, ARRANGED}
use Rattle.epic_aes.proofs.ByteLemmas.{one_of, sbox_of, byte_of-one, byte_of-xor, one_below}
use Rattle.epic_aes.proofs.LaneLemmas.{lane_below, lanes_of, lanes_are}
use Rattle.epic_aes.proofs.XorLemmas.{xor_medial}

xor_zero_l : (a : ℕ) → bit_xor 0 a ≡ a
xor_zero_l a = xor_comm 0 a ∙ xor_zero_r a

byte_of-zero : byte_of 0 ≡ 0
unfolding entry nibble_sum
byte_of-zero = refl

none_more : (n : ℕ) → bit_xor (byte_of 0) n ≡ n
none_more n = ap (λ z. bit_xor z n) byte_of-zero ∙ xor_zero_l n

-- what the S-box adds to a column, from the lane t of the last word and the lane m of the constants
abbrev added : ℕ → ℕ → ℕ
added t m = bit_xor (bit_xor (sbox_of t) 0x63) (byte_of m)

-- a byte of the next key, from the lanes of its row from its column back and from those two
key_byte : (a b c d t m : ℕ) → a < 256 → b < 256 → c < 256 → d < 256 → t < 256 → m < 256 →
    byte_of (bit_xor (bit_xor (bit_xor a b) (bit_xor c d)) (bit_xor (one_of t) m))
    ≡ bit_xor (byte_of a) (bit_xor (byte_of b) (bit_xor (byte_of c) (bit_xor (byte_of d) (added t m))))
key_byte a b c d t m a_below b_below c_below d_below t_below m_below =
    let front = xor_of_8 a b a_below b_below in
    let back = xor_of_8 c d c_below d_below in
    let one = one_below t t_below in
    byte_of-xor (bit_xor (bit_xor a b) (bit_xor c d)) (bit_xor (one_of t) m) (xor_of_8 (bit_xor a b) (bit_xor c d) front back) (xor_of_8 (one_of t) m one m_below)
    ∙ (λ i. bit_xor (byte_of-xor (bit_xor a b) (bit_xor c d) front back i) (byte_of-xor (one_of t) m one m_below i))
    ∙ (λ i. bit_xor (bit_xor (byte_of-xor a b a_below b_below i) (byte_of-xor c d c_below d_below i)) (bit_xor (byte_of-one t t_below i) (byte_of m)))
    ∙ xor_assoc (bit_xor (byte_of a) (byte_of b)) (bit_xor (byte_of c) (byte_of d)) (added t m)
    ∙ xor_assoc (byte_of a) (byte_of b) (bit_xor (bit_xor (byte_of c) (byte_of d)) (added t m))
    ∙ ap (λ n. bit_xor (byte_of a) (bit_xor (byte_of b) n)) (xor_assoc (byte_of c) (byte_of d) (added t m))

-- the constant of the S-box goes, and the round constant stays
plain : (s m : ℕ) → m ≡ 0x63 → bit_xor (bit_xor s 0x63) m ≡ s
plain s m is = ap (bit_xor (bit_xor s 0x63)) is ∙ xor_assoc s 0x63 0x63 ∙ xor_zero_r s

with_constant : (s m x : ℕ) → m ≡ bit_xor x 0x63 → bit_xor (bit_xor s 0x63) m ≡ bit_xor s x
with_constant s m x is = ap (bit_xor (bit_xor s 0x63)) is ∙ xor_medial s 0x63 x 0x63 ∙ xor_zero_r (bit_xor s x)

-- the constants of a round key
abbrev pub constants : ℕ → List ℕ
constants x =
    let first = bit_xor x 0x63 in
    first ∷ 0x63 ∷ 0x63 ∷ 0x63 ∷ first ∷ 0x63 ∷ 0x63 ∷ 0x63 ∷ first ∷ 0x63 ∷ 0x63 ∷ 0x63 ∷ first ∷ 0x63 ∷ 0x63 ∷ 0x63 ∷ []

pub next_key_lanes : (key last one e : List ℕ) (x : ℕ) → length key ≡ 16 → Each1 (Fits w8) key → length e ≡ 16 → Each1 (Fits w8) e →
    last ≡ map (entry key) LAST_WORD → one ≡ map one_of last → state_of 0 e ≡ constants x →
    let two = zip2 bit_xor key (map (entry key) ONE_COLUMN_ON) in
    state_of 0 (zip2 bit_xor (zip2 bit_xor two (map (entry two) TWO_COLUMNS_ON)) (zip2 bit_xor one e)) ≡ next_key (state_of 0 key) x
unfolding entry
next_key_lanes key last one e x key_long key_fits e_long e_fits last_is one_is constants_are =
    (λ i. let two = zip2 bit_xor (lanes_are key key_long i) (map (entry (lanes_are key key_long i)) ONE_COLUMN_ON) in
    state_of 0 (zip2 bit_xor (zip2 bit_xor two (map (entry two) TWO_COLUMNS_ON)) (zip2 bit_xor (ones i) (lanes_are e e_long i))))
    ∙ (λ i. first_column 0 13 0 (bit_xor (sbox_of (get_or key 13 0)) x) (first 13 0 (at 0)) i
    ∷ first_column 1 14 1 (sbox_of (get_or key 14 0)) (other 14 1 (at 1)) i
    ∷ first_column 2 15 2 (sbox_of (get_or key 15 0)) (other 15 2 (at 2)) i
    ∷ first_column 3 12 3 (sbox_of (get_or key 12 0)) (other 12 3 (at 3)) i
    ∷ second_column 4 0 13 4 (bit_xor (sbox_of (get_or key 13 0)) x) (first 13 4 (at 4)) i
    ∷ second_column 5 1 14 5 (sbox_of (get_or key 14 0)) (other 14 5 (at 5)) i
    ∷ second_column 6 2 15 6 (sbox_of (get_or key 15 0)) (other 15 6 (at 6)) i
    ∷ second_column 7 3 12 7 (sbox_of (get_or key 12 0)) (other 12 7 (at 7)) i
    ∷ third_column 8 4 0 13 8 (bit_xor (sbox_of (get_or key 13 0)) x) (first 13 8 (at 8)) i
    ∷ third_column 9 5 1 14 9 (sbox_of (get_or key 14 0)) (other 14 9 (at 9)) i
    ∷ third_column 10 6 2 15 10 (sbox_of (get_or key 15 0)) (other 15 10 (at 10)) i
    ∷ third_column 11 7 3 12 11 (sbox_of (get_or key 12 0)) (other 12 11 (at 11)) i
    ∷ last_column 12 8 4 0 13 12 (bit_xor (sbox_of (get_or key 13 0)) x) (first 13 12 (at 12)) i
    ∷ last_column 13 9 5 1 14 13 (sbox_of (get_or key 14 0)) (other 14 13 (at 13)) i
    ∷ last_column 14 10 6 2 15 14 (sbox_of (get_or key 15 0)) (other 15 14 (at 14)) i
    ∷ last_column 15 11 7 3 12 15 (sbox_of (get_or key 12 0)) (other 12 15 (at 15)) i ∷ [])
  where
    ones : one ≡ map one_of (map (entry (lanes_of key)) LAST_WORD)
    ones = one_is ∙ ap (map one_of) (last_is ∙ ap (λ k. map (entry k) LAST_WORD) (lanes_are key key_long))

    below : (n : ℕ) → get_or key n 0 < 256
    below = lane_below key key_fits

    last_column : (a b c d t n s : ℕ) → added (get_or key t 0) (get_or e n 0) ≡ s →
        byte_of (bit_xor (bit_xor (bit_xor (get_or key a 0) (get_or key b 0)) (bit_xor (get_or key c 0) (get_or key d 0))) (bit_xor (one_of (get_or key t 0)) (get_or e n 0)))
        ≡ bit_xor (byte_of (get_or key a 0)) (bit_xor (byte_of (get_or key b 0)) (bit_xor (byte_of (get_or key c 0)) (bit_xor (byte_of (get_or key d 0)) s)))
    last_column a b c d t n s adds =
        key_byte (get_or key a 0) (get_or key b 0) (get_or key c 0) (get_or key d 0) (get_or key t 0) (get_or e n 0)
        (below a) (below b) (below c) (below d) (below t) (lane_below e e_fits n)
        ∙ ap (λ z. bit_xor (byte_of (get_or key a 0)) (bit_xor (byte_of (get_or key b 0)) (bit_xor (byte_of (get_or key c 0)) (bit_xor (byte_of (get_or key d 0)) z)))) adds

    third_column : (a b c t n s : ℕ) → added (get_or key t 0) (get_or e n 0) ≡ s →
        byte_of (bit_xor (bit_xor (bit_xor (get_or key a 0) (get_or key b 0)) (bit_xor (get_or key c 0) 0)) (bit_xor (one_of (get_or key t 0)) (get_or e n 0)))
        ≡ bit_xor (byte_of (get_or key a 0)) (bit_xor (byte_of (get_or key b 0)) (bit_xor (byte_of (get_or key c 0)) s))
    third_column a b c t n s adds =
        key_byte (get_or key a 0) (get_or key b 0) (get_or key c 0) 0 (get_or key t 0) (get_or e n 0)
        (below a) (below b) (below c) (lit< tt) (below t) (lane_below e e_fits n)
        ∙ ap (λ z. bit_xor (byte_of (get_or key a 0)) (bit_xor (byte_of (get_or key b 0)) (bit_xor (byte_of (get_or key c 0)) z)))
        (none_more (added (get_or key t 0) (get_or e n 0)) ∙ adds)

    second_column : (a b t n s : ℕ) → added (get_or key t 0) (get_or e n 0) ≡ s →
        byte_of (bit_xor (bit_xor (bit_xor (get_or key a 0) (get_or key b 0)) 0) (bit_xor (one_of (get_or key t 0)) (get_or e n 0)))
        ≡ bit_xor (byte_of (get_or key a 0)) (bit_xor (byte_of (get_or key b 0)) s)
    second_column a b t n s adds =
        key_byte (get_or key a 0) (get_or key b 0) 0 0 (get_or key t 0) (get_or e n 0)
        (below a) (below b) (lit< tt) (lit< tt) (below t) (lane_below e e_fits n)
        ∙ ap (λ z. bit_xor (byte_of (get_or key a 0)) (bit_xor (byte_of (get_or key b 0)) z))
        (none_more (bit_xor (byte_of 0) (added (get_or key t 0) (get_or e n 0))) ∙ none_more (added (get_or key t 0) (get_or e n 0)) ∙ adds)

    first_column : (a t n s : ℕ) → added (get_or key t 0) (get_or e n 0) ≡ s →
        byte_of (bit_xor (bit_xor (bit_xor (get_or key a 0) 0) 0) (bit_xor (one_of (get_or key t 0)) (get_or e n 0)))
        ≡ bit_xor (byte_of (get_or key a 0)) s
    first_column a t n s adds =
        key_byte (get_or key a 0) 0 0 0 (get_or key t 0) (get_or e n 0)
        (below a) (lit< tt) (lit< tt) (lit< tt) (below t) (lane_below e e_fits n)
        ∙ ap (λ z. bit_xor (byte_of (get_or key a 0)) z)
        (none_more (bit_xor (byte_of 0) (bit_xor (byte_of 0) (added (get_or key t 0) (get_or e n 0))))
        ∙ none_more (bit_xor (byte_of 0) (added (get_or key t 0) (get_or e n 0)))
        ∙ none_more (added (get_or key t 0) (get_or e n 0))
        ∙ adds)

    -- what is added in the first row, and in the others
    first : (t n : ℕ) → byte_of (get_or e n 0) ≡ bit_xor x 0x63 → added (get_or key t 0) (get_or e n 0) ≡ bit_xor (sbox_of (get_or key t 0)) x
    first t n is = with_constant (sbox_of (get_or key t 0)) (byte_of (get_or e n 0)) x is

    other : (t n : ℕ) → byte_of (get_or e n 0) ≡ 0x63 → added (get_or key t 0) (get_or e n 0) ≡ sbox_of (get_or key t 0)
    other t n is = plain (sbox_of (get_or key t 0)) (byte_of (get_or e n 0)) is

    at : (n : ℕ) → get_or (state_of 0 e) n 0 ≡ get_or (constants x) n 0
    at n = ap (λ bytes. get_or bytes n 0) constants_are

module _ (key e : List ℕ) (key_fits : Each1 (Fits w8) key) (e_fits : Each1 (Fits w8) e) where
  kept : (n m : ℕ) → byte_of (get_or e m 0) ≡ 0x63 → bit_xor (byte_of (bit_xor (get_or key n 0) (get_or e m 0))) 0x63 ≡ byte_of (get_or key n 0)
  kept n m is =
      ap (λ z. bit_xor z 0x63) (byte_of-xor (get_or key n 0) (get_or e m 0) (lane_below key key_fits n) (lane_below e e_fits m) ∙ ap (bit_xor (byte_of (get_or key n 0))) is)
      ∙ xor_assoc (byte_of (get_or key n 0)) 0x63 0x63
      ∙ xor_zero_r (byte_of (get_or key n 0))

  abbrev IsKept : ℕ → Type 0
  IsKept n = key_of n (zip2 bit_xor (map (entry (lanes_of key)) (slice_index_or ARRANGED n [])) (lanes_of e)) ≡ state_of 0 key

  module _ (same : state_of 0 e ≡ 0x63 ∷ 0x63 ∷ 0x63 ∷ 0x63 ∷ 0x63 ∷ 0x63 ∷ 0x63 ∷ 0x63 ∷ 0x63 ∷ 0x63 ∷ 0x63 ∷ 0x63 ∷ 0x63 ∷ 0x63 ∷ 0x63 ∷ 0x63 ∷ []) where
    at : (n : ℕ) → get_or (state_of 0 e) n 0 ≡ get_or (0x63 ∷ 0x63 ∷ 0x63 ∷ 0x63 ∷ 0x63 ∷ 0x63 ∷ 0x63 ∷ 0x63 ∷ 0x63 ∷ 0x63 ∷ 0x63 ∷ 0x63 ∷ 0x63 ∷ 0x63 ∷ 0x63 ∷ 0x63 ∷ []) n 0
    at n = ap (λ bytes. get_or bytes n 0) same

    arranged_0 : IsKept 0
    unfolding entry
    arranged_0 = λ i. kept 0 0 (at 0) i ∷ kept 1 1 (at 1) i ∷ kept 2 2 (at 2) i ∷ kept 3 3 (at 3) i ∷ kept 4 4 (at 4) i ∷ kept 5 5 (at 5) i ∷ kept 6 6 (at 6) i ∷ kept 7 7 (at 7) i ∷ kept 8 8 (at 8) i ∷ kept 9 9 (at 9) i ∷ kept 10 10 (at 10) i ∷ kept 11 11 (at 11) i ∷ kept 12 12 (at 12) i ∷ kept 13 13 (at 13) i ∷ kept 14 14 (at 14) i ∷ kept 15 15 (at 15) i ∷ []

    arranged_1 : IsKept 1
    unfolding entry
    arranged_1 = λ i. kept 0 5 (at 5) i ∷ kept 1 10 (at 10) i ∷ kept 2 15 (at 15) i ∷ kept 3 0 (at 0) i ∷ kept 4 9 (at 9) i ∷ kept 5 14 (at 14) i ∷ kept 6 3 (at 3) i ∷ kept 7 4 (at 4) i ∷ kept 8 13 (at 13) i ∷ kept 9 2 (at 2) i ∷ kept 10 7 (at 7) i ∷ kept 11 8 (at 8) i ∷ kept 12 1 (at 1) i ∷ kept 13 6 (at 6) i ∷ kept 14 11 (at 11) i ∷ kept 15 12 (at 12) i ∷ []

    arranged_2 : IsKept 2
    unfolding entry
    arranged_2 = λ i. kept 0 14 (at 14) i ∷ kept 1 7 (at 7) i ∷ kept 2 12 (at 12) i ∷ kept 3 5 (at 5) i ∷ kept 4 2 (at 2) i ∷ kept 5 11 (at 11) i ∷ kept 6 0 (at 0) i ∷ kept 7 9 (at 9) i ∷ kept 8 6 (at 6) i ∷ kept 9 15 (at 15) i ∷ kept 10 4 (at 4) i ∷ kept 11 13 (at 13) i ∷ kept 12 10 (at 10) i ∷ kept 13 3 (at 3) i ∷ kept 14 8 (at 8) i ∷ kept 15 1 (at 1) i ∷ []

    arranged_3 : IsKept 3
    unfolding entry
    arranged_3 = λ i. kept 0 11 (at 11) i ∷ kept 1 4 (at 4) i ∷ kept 2 1 (at 1) i ∷ kept 3 14 (at 14) i ∷ kept 4 15 (at 15) i ∷ kept 5 8 (at 8) i ∷ kept 6 5 (at 5) i ∷ kept 7 2 (at 2) i ∷ kept 8 3 (at 3) i ∷ kept 9 12 (at 12) i ∷ kept 10 9 (at 9) i ∷ kept 11 6 (at 6) i ∷ kept 12 7 (at 7) i ∷ kept 13 0 (at 0) i ∷ kept 14 13 (at 13) i ∷ kept 15 10 (at 10) i ∷ []

    arranged_4 : IsKept 4
    unfolding entry
    arranged_4 = λ i. kept 0 8 (at 8) i ∷ kept 1 9 (at 9) i ∷ kept 2 10 (at 10) i ∷ kept 3 11 (at 11) i ∷ kept 4 12 (at 12) i ∷ kept 5 13 (at 13) i ∷ kept 6 14 (at 14) i ∷ kept 7 15 (at 15) i ∷ kept 8 0 (at 0) i ∷ kept 9 1 (at 1) i ∷ kept 10 2 (at 2) i ∷ kept 11 3 (at 3) i ∷ kept 12 4 (at 4) i ∷ kept 13 5 (at 5) i ∷ kept 14 6 (at 6) i ∷ kept 15 7 (at 7) i ∷ []

    arranged_5 : IsKept 5
    unfolding entry
    arranged_5 = λ i. kept 0 13 (at 13) i ∷ kept 1 2 (at 2) i ∷ kept 2 7 (at 7) i ∷ kept 3 8 (at 8) i ∷ kept 4 1 (at 1) i ∷ kept 5 6 (at 6) i ∷ kept 6 11 (at 11) i ∷ kept 7 12 (at 12) i ∷ kept 8 5 (at 5) i ∷ kept 9 10 (at 10) i ∷ kept 10 15 (at 15) i ∷ kept 11 0 (at 0) i ∷ kept 12 9 (at 9) i ∷ kept 13 14 (at 14) i ∷ kept 14 3 (at 3) i ∷ kept 15 4 (at 4) i ∷ []

    arranged_6 : IsKept 6
    unfolding entry
    arranged_6 = λ i. kept 0 6 (at 6) i ∷ kept 1 15 (at 15) i ∷ kept 2 4 (at 4) i ∷ kept 3 13 (at 13) i ∷ kept 4 10 (at 10) i ∷ kept 5 3 (at 3) i ∷ kept 6 8 (at 8) i ∷ kept 7 1 (at 1) i ∷ kept 8 14 (at 14) i ∷ kept 9 7 (at 7) i ∷ kept 10 12 (at 12) i ∷ kept 11 5 (at 5) i ∷ kept 12 2 (at 2) i ∷ kept 13 11 (at 11) i ∷ kept 14 0 (at 0) i ∷ kept 15 9 (at 9) i ∷ []

    arranged_7 : IsKept 7
    unfolding entry
    arranged_7 = λ i. kept 0 3 (at 3) i ∷ kept 1 12 (at 12) i ∷ kept 2 9 (at 9) i ∷ kept 3 6 (at 6) i ∷ kept 4 7 (at 7) i ∷ kept 5 0 (at 0) i ∷ kept 6 13 (at 13) i ∷ kept 7 10 (at 10) i ∷ kept 8 11 (at 11) i ∷ kept 9 4 (at 4) i ∷ kept 10 1 (at 1) i ∷ kept 11 14 (at 14) i ∷ kept 12 15 (at 15) i ∷ kept 13 8 (at 8) i ∷ kept 14 5 (at 5) i ∷ kept 15 2 (at 2) i ∷ []

    arranged_8 : IsKept 8
    unfolding entry
    arranged_8 = λ i. kept 0 0 (at 0) i ∷ kept 1 1 (at 1) i ∷ kept 2 2 (at 2) i ∷ kept 3 3 (at 3) i ∷ kept 4 4 (at 4) i ∷ kept 5 5 (at 5) i ∷ kept 6 6 (at 6) i ∷ kept 7 7 (at 7) i ∷ kept 8 8 (at 8) i ∷ kept 9 9 (at 9) i ∷ kept 10 10 (at 10) i ∷ kept 11 11 (at 11) i ∷ kept 12 12 (at 12) i ∷ kept 13 13 (at 13) i ∷ kept 14 14 (at 14) i ∷ kept 15 15 (at 15) i ∷ []

    arranged_9 : IsKept 9
    unfolding entry
    arranged_9 = λ i. kept 0 5 (at 5) i ∷ kept 1 10 (at 10) i ∷ kept 2 15 (at 15) i ∷ kept 3 0 (at 0) i ∷ kept 4 9 (at 9) i ∷ kept 5 14 (at 14) i ∷ kept 6 3 (at 3) i ∷ kept 7 4 (at 4) i ∷ kept 8 13 (at 13) i ∷ kept 9 2 (at 2) i ∷ kept 10 7 (at 7) i ∷ kept 11 8 (at 8) i ∷ kept 12 1 (at 1) i ∷ kept 13 6 (at 6) i ∷ kept 14 11 (at 11) i ∷ kept 15 12 (at 12) i ∷ []

pub round_key_lanes : (n : ℕ) → n < 10 → (key e y : List ℕ) → length key ≡ 16 → Each1 (Fits w8) key → length e ≡ 16 → Each1 (Fits w8) e →
    state_of 0 e ≡ 0x63 ∷ 0x63 ∷ 0x63 ∷ 0x63 ∷ 0x63 ∷ 0x63 ∷ 0x63 ∷ 0x63 ∷ 0x63 ∷ 0x63 ∷ 0x63 ∷ 0x63 ∷ 0x63 ∷ 0x63 ∷ 0x63 ∷ 0x63 ∷ [] →
    y ≡ map (entry key) (slice_index_or ARRANGED n []) →
    key_of n (zip2 bit_xor y e) ≡ state_of 0 key
round_key_lanes n below key e y key_long key_fits e_long e_fits same is =
    (λ i. key_of n (zip2 bit_xor ((is ∙ ap (λ k. map (entry k) (slice_index_or ARRANGED n [])) (lanes_are key key_long)) i) (lanes_are e e_long i)))
    ∙ each n below
  where
    each : (n : ℕ) → n < 10 → IsKept key e key_fits e_fits n
    each zero below = arranged_0 key e key_fits e_fits same
    each (suc zero) below = arranged_1 key e key_fits e_fits same
    each (suc (suc zero)) below = arranged_2 key e key_fits e_fits same
    each (suc (suc (suc zero))) below = arranged_3 key e key_fits e_fits same
    each (suc (suc (suc (suc zero)))) below = arranged_4 key e key_fits e_fits same
    each (suc (suc (suc (suc (suc zero))))) below = arranged_5 key e key_fits e_fits same
    each (suc (suc (suc (suc (suc (suc zero)))))) below = arranged_6 key e key_fits e_fits same
    each (suc (suc (suc (suc (suc (suc (suc zero))))))) below = arranged_7 key e key_fits e_fits same
    each (suc (suc (suc (suc (suc (suc (suc (suc zero)))))))) below = arranged_8 key e key_fits e_fits same
    each (suc (suc (suc (suc (suc (suc (suc (suc (suc zero))))))))) below = arranged_9 key e key_fits e_fits same
    each (suc (suc (suc (suc (suc (suc (suc (suc (suc (suc n)))))))))) below = absurd (omega arith)
