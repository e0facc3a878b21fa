-- The rounds on lanes, byte by byte.
use Rattle.std.proofs.Common.{◌≡◌, ℕ, zero, suc, ◌+◌, ◌%◌, ◌<◌, List, [], ◌∷◌, length, map, get_or, slice_index_or, bit_xor, ap, sym, ◌∙◌, arith}
use Rattle.std.specs.Int.{w8}
use Rattle.std.specs.Simd.Lanes.{Each1, zip2}
use Rattle.std.proofs.lemmas.Nat.{xor_of_8}
use mir.Val.{Fits}
use Rattle.epic_aes.specs.Cipher.{add_round_key, round, last_round}
use Rattle.epic_aes.specs.Field.{product}
use Rattle.epic_aes.specs.Lanes.{entry, lane_of, byte_of, mixed_lanes, state_of, key_of}
use Rattle.epic_aes.specs.declared.tables.TheConstants.{OPPOSITE, ABOVE, LAST}
use Rattle.epic_aes.proofs.ByteLemmas.{one_of, two_of, sbox_of, byte_of-one, byte_of-two, product-three, byte_of-lane_of, byte_of-xor, one_below, two_below}
use Rattle.epic_aes.proofs.LaneLemmas.{map-same, lane_below, lanes_of, lanes_are}
use Rattle.epic_aes.proofs.XorLemmas.{xor_last, xor_mixed}

-- a byte of a round, from the lanes of its column from that byte down and from the lane of the key
mix_byte : (a b c d k : ℕ) → a < 256 → b < 256 → c < 256 → d < 256 → k < 256 →
    byte_of (bit_xor (bit_xor (bit_xor (one_of b) k) (bit_xor (two_of b) (one_of d))) (bit_xor (two_of a) (one_of c)))
    ≡ bit_xor (bit_xor (bit_xor (bit_xor (product 2 (sbox_of a)) (product 3 (sbox_of b))) (sbox_of c)) (sbox_of d)) (bit_xor (byte_of k) 0x63)
mix_byte a b c d k a_below b_below c_below d_below k_below =
    let key = xor_of_8 (one_of b) k (one_below b b_below) k_below in
    let front = xor_of_8 (two_of b) (one_of d) (two_below b b_below) (one_below d d_below) in
    let back = xor_of_8 (two_of a) (one_of c) (two_below a a_below) (one_below c c_below) in
    let sum = bit_xor (bit_xor (one_of b) k) (bit_xor (two_of b) (one_of d)) in
    byte_of-xor sum (bit_xor (two_of a) (one_of c)) (xor_of_8 (bit_xor (one_of b) k) (bit_xor (two_of b) (one_of d)) key front) back
    ∙ (λ i. bit_xor
    (byte_of-xor (bit_xor (one_of b) k) (bit_xor (two_of b) (one_of d)) key front i)
    (byte_of-xor (two_of a) (one_of c) (two_below a a_below) (one_below c c_below) i))
    ∙ (λ i. bit_xor
    (bit_xor
    (byte_of-xor (one_of b) k (one_below b b_below) k_below i)
    (byte_of-xor (two_of b) (one_of d) (two_below b b_below) (one_below d d_below) i))
    (bit_xor (byte_of-two a a_below i) (byte_of-one c c_below i)))
    ∙ (λ i. bit_xor
    (bit_xor (bit_xor (byte_of-one b b_below i) (byte_of k)) (bit_xor (byte_of-two b b_below i) (byte_of-one d d_below i)))
    (bit_xor (bit_xor (product 2 (sbox_of a)) 0xc6) (bit_xor (sbox_of c) 0x63)))
    ∙ xor_mixed (product 2 (sbox_of a)) (sbox_of b) (product 2 (sbox_of b)) (sbox_of c) (sbox_of d) (byte_of k)
    ∙ (λ i. bit_xor (bit_xor (bit_xor (bit_xor (product 2 (sbox_of a)) (sym (product-three b b_below) i)) (sbox_of c)) (sbox_of d)) (bit_xor (byte_of k) 0x63))

-- the lanes of a round before they are mixed are lists of 16 in what follows
module _ (x key : List ℕ) (x_fits : Each1 (Fits w8) x) (key_fits : Each1 (Fits w8) key) where
  -- from the lanes of a column, from a byte down; the lane of the key is that of the second
  at : (a b c d : ℕ) →
      byte_of (bit_xor (bit_xor (bit_xor (one_of (get_or x b 0)) (get_or key b 0)) (bit_xor (two_of (get_or x b 0)) (one_of (get_or x d 0)))) (bit_xor (two_of (get_or x a 0)) (one_of (get_or x c 0))))
      ≡ bit_xor (bit_xor (bit_xor (bit_xor (product 2 (sbox_of (get_or x a 0))) (product 3 (sbox_of (get_or x b 0)))) (sbox_of (get_or x c 0))) (sbox_of (get_or x d 0))) (bit_xor (byte_of (get_or key b 0)) 0x63)
  at a b c d =
      mix_byte (get_or x a 0) (get_or x b 0) (get_or x c 0) (get_or x d 0) (get_or key b 0)
      (lane_below x x_fits a) (lane_below x x_fits b) (lane_below x x_fits c) (lane_below x x_fits d) (lane_below key key_fits b)

  -- after n rounds
  abbrev IsRound : ℕ → Type 0
  IsRound n =
      state_of (n + 1) (mixed_lanes (map one_of (lanes_of x)) (map two_of (lanes_of x)) (lanes_of key) (slice_index_or OPPOSITE (n % 2) []) (slice_index_or ABOVE (n % 4) []))
      ≡ round (state_of n x) (key_of (n + 1) key)

  after_0 : IsRound 0
  unfolding entry
  after_0 = λ i. at 0 5 10 15 i ∷ at 5 10 15 0 i ∷ at 10 15 0 5 i ∷ at 15 0 5 10 i ∷ at 4 9 14 3 i ∷ at 9 14 3 4 i ∷ at 14 3 4 9 i ∷ at 3 4 9 14 i ∷ at 8 13 2 7 i ∷ at 13 2 7 8 i ∷ at 2 7 8 13 i ∷ at 7 8 13 2 i ∷ at 12 1 6 11 i ∷ at 1 6 11 12 i ∷ at 6 11 12 1 i ∷ at 11 12 1 6 i ∷ []

  after_1 : IsRound 1
  unfolding entry
  after_1 = λ i. at 5 14 7 12 i ∷ at 14 7 12 5 i ∷ at 7 12 5 14 i ∷ at 12 5 14 7 i ∷ at 9 2 11 0 i ∷ at 2 11 0 9 i ∷ at 11 0 9 2 i ∷ at 0 9 2 11 i ∷ at 13 6 15 4 i ∷ at 6 15 4 13 i ∷ at 15 4 13 6 i ∷ at 4 13 6 15 i ∷ at 1 10 3 8 i ∷ at 10 3 8 1 i ∷ at 3 8 1 10 i ∷ at 8 1 10 3 i ∷ []

  after_2 : IsRound 2
  unfolding entry
  after_2 = λ i. at 14 11 4 1 i ∷ at 11 4 1 14 i ∷ at 4 1 14 11 i ∷ at 1 14 11 4 i ∷ at 2 15 8 5 i ∷ at 15 8 5 2 i ∷ at 8 5 2 15 i ∷ at 5 2 15 8 i ∷ at 6 3 12 9 i ∷ at 3 12 9 6 i ∷ at 12 9 6 3 i ∷ at 9 6 3 12 i ∷ at 10 7 0 13 i ∷ at 7 0 13 10 i ∷ at 0 13 10 7 i ∷ at 13 10 7 0 i ∷ []

  after_3 : IsRound 3
  unfolding entry
  after_3 = λ i. at 11 8 9 10 i ∷ at 8 9 10 11 i ∷ at 9 10 11 8 i ∷ at 10 11 8 9 i ∷ at 15 12 13 14 i ∷ at 12 13 14 15 i ∷ at 13 14 15 12 i ∷ at 14 15 12 13 i ∷ at 3 0 1 2 i ∷ at 0 1 2 3 i ∷ at 1 2 3 0 i ∷ at 2 3 0 1 i ∷ at 7 4 5 6 i ∷ at 4 5 6 7 i ∷ at 5 6 7 4 i ∷ at 6 7 4 5 i ∷ []

  after_4 : IsRound 4
  unfolding entry
  after_4 = λ i. at 8 13 2 7 i ∷ at 13 2 7 8 i ∷ at 2 7 8 13 i ∷ at 7 8 13 2 i ∷ at 12 1 6 11 i ∷ at 1 6 11 12 i ∷ at 6 11 12 1 i ∷ at 11 12 1 6 i ∷ at 0 5 10 15 i ∷ at 5 10 15 0 i ∷ at 10 15 0 5 i ∷ at 15 0 5 10 i ∷ at 4 9 14 3 i ∷ at 9 14 3 4 i ∷ at 14 3 4 9 i ∷ at 3 4 9 14 i ∷ []

  after_5 : IsRound 5
  unfolding entry
  after_5 = λ i. at 13 6 15 4 i ∷ at 6 15 4 13 i ∷ at 15 4 13 6 i ∷ at 4 13 6 15 i ∷ at 1 10 3 8 i ∷ at 10 3 8 1 i ∷ at 3 8 1 10 i ∷ at 8 1 10 3 i ∷ at 5 14 7 12 i ∷ at 14 7 12 5 i ∷ at 7 12 5 14 i ∷ at 12 5 14 7 i ∷ at 9 2 11 0 i ∷ at 2 11 0 9 i ∷ at 11 0 9 2 i ∷ at 0 9 2 11 i ∷ []

  after_6 : IsRound 6
  unfolding entry
  after_6 = λ i. at 6 3 12 9 i ∷ at 3 12 9 6 i ∷ at 12 9 6 3 i ∷ at 9 6 3 12 i ∷ at 10 7 0 13 i ∷ at 7 0 13 10 i ∷ at 0 13 10 7 i ∷ at 13 10 7 0 i ∷ at 14 11 4 1 i ∷ at 11 4 1 14 i ∷ at 4 1 14 11 i ∷ at 1 14 11 4 i ∷ at 2 15 8 5 i ∷ at 15 8 5 2 i ∷ at 8 5 2 15 i ∷ at 5 2 15 8 i ∷ []

  after_7 : IsRound 7
  unfolding entry
  after_7 = λ i. at 3 0 1 2 i ∷ at 0 1 2 3 i ∷ at 1 2 3 0 i ∷ at 2 3 0 1 i ∷ at 7 4 5 6 i ∷ at 4 5 6 7 i ∷ at 5 6 7 4 i ∷ at 6 7 4 5 i ∷ at 11 8 9 10 i ∷ at 8 9 10 11 i ∷ at 9 10 11 8 i ∷ at 10 11 8 9 i ∷ at 15 12 13 14 i ∷ at 12 13 14 15 i ∷ at 13 14 15 12 i ∷ at 14 15 12 13 i ∷ []

  after_8 : IsRound 8
  unfolding entry
  after_8 = λ i. at 0 5 10 15 i ∷ at 5 10 15 0 i ∷ at 10 15 0 5 i ∷ at 15 0 5 10 i ∷ at 4 9 14 3 i ∷ at 9 14 3 4 i ∷ at 14 3 4 9 i ∷ at 3 4 9 14 i ∷ at 8 13 2 7 i ∷ at 13 2 7 8 i ∷ at 2 7 8 13 i ∷ at 7 8 13 2 i ∷ at 12 1 6 11 i ∷ at 1 6 11 12 i ∷ at 6 11 12 1 i ∷ at 11 12 1 6 i ∷ []

pub round_lanes : (n : ℕ) → n < 9 → (x key one two : List ℕ) → length x ≡ 16 → Each1 (Fits w8) x → length key ≡ 16 → Each1 (Fits w8) key →
    one ≡ map one_of x → two ≡ map two_of x →
    state_of (n + 1) (mixed_lanes one two key (slice_index_or OPPOSITE (n % 2) []) (slice_index_or ABOVE (n % 4) []))
    ≡ round (state_of n x) (key_of (n + 1) key)
round_lanes n below x key one two x_long x_fits key_long key_fits one_is two_is =
    (λ i. state_of (n + 1) (mixed_lanes
    ((one_is ∙ ap (map one_of) (lanes_are x x_long)) i)
    ((two_is ∙ ap (map two_of) (lanes_are x x_long)) i)
    (lanes_are key key_long i) (slice_index_or OPPOSITE (n % 2) []) (slice_index_or ABOVE (n % 4) [])))
    ∙ each n below
  where
    each : (n : ℕ) → n < 9 → IsRound x key x_fits key_fits n
    each zero below = after_0 x key x_fits key_fits
    each (suc zero) below = after_1 x key x_fits key_fits
    each (suc (suc zero)) below = after_2 x key x_fits key_fits
    each (suc (suc (suc zero))) below = after_3 x key x_fits key_fits
    each (suc (suc (suc (suc zero)))) below = after_4 x key x_fits key_fits
    each (suc (suc (suc (suc (suc zero))))) below = after_5 x key x_fits key_fits
    each (suc (suc (suc (suc (suc (suc zero)))))) below = after_6 x key x_fits key_fits
    each (suc (suc (suc (suc (suc (suc (suc zero))))))) below = after_7 x key x_fits key_fits
    each (suc (suc (suc (suc (suc (suc (suc (suc zero)))))))) below = after_8 x key x_fits key_fits
    each (suc (suc (suc (suc (suc (suc (suc (suc (suc n))))))))) below = absurd (omega arith)

-- a byte of the last round
last_byte : (a k : ℕ) → a < 256 → k < 256 → byte_of (bit_xor (one_of a) k) ≡ bit_xor (sbox_of a) (bit_xor (byte_of k) 0x63)
last_byte a k a_below k_below =
    byte_of-xor (one_of a) k (one_below a a_below) k_below
    ∙ ap (λ n. bit_xor n (byte_of k)) (byte_of-one a a_below)
    ∙ xor_last (sbox_of a) (byte_of k)

pub last_round_lanes : (x key one : List ℕ) → length x ≡ 16 → Each1 (Fits w8) x → length key ≡ 16 → Each1 (Fits w8) key →
    one ≡ map one_of x →
    state_of 0 (zip2 bit_xor (map (entry one) LAST) key) ≡ last_round (state_of 9 x) (key_of 0 key)
unfolding entry
last_round_lanes x key one x_long x_fits key_long key_fits one_is =
    (λ i. state_of 0 (zip2 bit_xor (map (entry ((one_is ∙ ap (map one_of) (lanes_are x x_long)) i)) LAST) (lanes_are key key_long i)))
    ∙ (λ i. at 5 0 i ∷ at 14 1 i ∷ at 7 2 i ∷ at 12 3 i ∷ at 9 4 i ∷ at 2 5 i ∷ at 11 6 i ∷ at 0 7 i ∷ at 13 8 i ∷ at 6 9 i ∷ at 15 10 i ∷ at 4 11 i ∷ at 1 12 i ∷ at 10 13 i ∷ at 3 14 i ∷ at 8 15 i ∷ [])
  where
    at : (n m : ℕ) → byte_of (bit_xor (one_of (get_or x n 0)) (get_or key m 0)) ≡ bit_xor (sbox_of (get_or x n 0)) (bit_xor (byte_of (get_or key m 0)) 0x63)
    at n m = last_byte (get_or x n 0) (get_or key m 0) (lane_below x x_fits n) (lane_below key key_fits m)

pub enter_lanes : (block y : List ℕ) → length block ≡ 16 → Each1 (Fits w8) block → y ≡ map lane_of block → state_of 0 y ≡ block
enter_lanes block y long fits is =
    ap (state_of 0) (is ∙ ap (map lane_of) (lanes_are block long))
    ∙ ap (map (λ b. byte_of (lane_of b))) (sym (lanes_are block long))
    ∙ map-same (λ b. byte_of (lane_of b)) byte_of-lane_of block fits

pub leave_lanes : (x y : List ℕ) → length x ≡ 16 → y ≡ map byte_of x → y ≡ state_of 0 x
leave_lanes x y long is = is ∙ ap (map byte_of) (lanes_are x long)

pub sum_lanes : (x y : List ℕ) → length x ≡ 16 → Each1 (Fits w8) x → length y ≡ 16 → Each1 (Fits w8) y →
    state_of 0 (zip2 bit_xor x y) ≡ add_round_key (state_of 0 x) (state_of 0 y)
sum_lanes x y x_long x_fits y_long y_fits =
    (λ i. state_of 0 (zip2 bit_xor (lanes_are x x_long i) (lanes_are y y_long i)))
    ∙ (λ i. at 0 i ∷ at 1 i ∷ at 2 i ∷ at 3 i ∷ at 4 i ∷ at 5 i ∷ at 6 i ∷ at 7 i ∷ at 8 i ∷ at 9 i ∷ at 10 i ∷ at 11 i ∷ at 12 i ∷ at 13 i ∷ at 14 i ∷ at 15 i ∷ [])
  where
    at : (n : ℕ) → byte_of (bit_xor (get_or x n 0) (get_or y n 0)) ≡ bit_xor (byte_of (get_or x n 0)) (byte_of (get_or y n 0))
    at n = byte_of-xor (get_or x n 0) (get_or y n 0) (lane_below x x_fits n) (lane_below y y_fits n)
