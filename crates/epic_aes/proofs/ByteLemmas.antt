-- What the look-ups give at each byte, by computing it for all 256.
use Rattle.std.proofs.Common.{◌≡◌, ℕ, ◌/◌, ◌%◌, ◌<◌, true, nat_lt, List, [], map, bit_xor, refl, ◌∙◌, ◌∷◌, sym, subst}
use Rattle.std.specs.Int.{w8}
use Rattle.std.specs.List.{range_with_len}
use Rattle.std.specs.Simd.Lanes.{Each1, zip2}
use Rattle.std.proofs.lemmas.Simd.{zip2_of_maps}
use borrow.Author.Tests.{ltb-true}
use mir.Val.{Fits}
use Rattle.epic_aes.specs.Field.{double, product_by_bits, product, inverse_power, inverse, affine_image, sbox}
use Rattle.epic_aes.specs.Lanes.{ArePlaces, AreBytes, entry, nibble_sum, lane_of, byte_of, first_half, second_half, half_sum}
use Rattle.epic_aes.specs.declared.tables.TheConstants.{INVERSE, OVER, ONE_FIRST, ONE_SECOND, TWO_FIRST, TWO_SECOND}
use Rattle.epic_aes.proofs.LaneLemmas.{same_at_byte, places-map, map-composed}

-- the steps to the halves of an inverse
abbrev pub low_of : ℕ → ℕ
low_of b = b % 16

abbrev pub high_of : ℕ → ℕ
high_of b = b / 16

abbrev pub sum_of : ℕ → ℕ
sum_of b = bit_xor (b % 16) (b / 16)

abbrev pub first_part : ℕ → ℕ
first_part b = bit_xor (entry INVERSE (b / 16)) (entry OVER (b % 16))

abbrev pub second_part : ℕ → ℕ
second_part b = bit_xor (entry INVERSE (sum_of b)) (entry OVER (b % 16))

-- each of them is a place
pub low_places : (x y : List ℕ) → Each1 (Fits w8) x → y ≡ map low_of x → ArePlaces y
low_places = places-map low_of refl

pub high_places : (x y : List ℕ) → Each1 (Fits w8) x → y ≡ map high_of x → ArePlaces y
high_places = places-map high_of refl

pub sum_places : (x y : List ℕ) → Each1 (Fits w8) x → y ≡ map sum_of x → ArePlaces y
sum_places = places-map sum_of refl

pub first_part_places : (x y : List ℕ) → Each1 (Fits w8) x → y ≡ map first_part x → ArePlaces y
unfolding entry
first_part_places = places-map first_part refl

pub second_part_places : (x y : List ℕ) → Each1 (Fits w8) x → y ≡ map second_part x → ArePlaces y
unfolding entry
second_part_places = places-map second_part refl

pub first_half_places : (x y : List ℕ) → Each1 (Fits w8) x → y ≡ map first_half x → ArePlaces y
unfolding entry first_half
first_half_places = places-map first_half refl

pub second_half_places : (x y : List ℕ) → Each1 (Fits w8) x → y ≡ map second_half x → ArePlaces y
unfolding entry second_half
second_half_places = places-map second_half refl

-- the S-box of a byte that a lane stands for, without its constant and with it doubled, as the look-ups give it
abbrev pub one_of : ℕ → ℕ
one_of b = half_sum ONE_FIRST ONE_SECOND b

abbrev pub two_of : ℕ → ℕ
two_of b = half_sum TWO_FIRST TWO_SECOND b

abbrev pub sbox_of : ℕ → ℕ
sbox_of b = sbox (byte_of b)

pub byte_of-one : (b : ℕ) → b < 256 → byte_of (one_of b) ≡ bit_xor (sbox_of b) 0x63
unfolding entry nibble_sum first_half second_half half_sum double product_by_bits product inverse_power inverse affine_image sbox
byte_of-one = same_at_byte (λ b. byte_of (one_of b)) (λ b. bit_xor (sbox_of b) 0x63) 0 refl

pub byte_of-two : (b : ℕ) → b < 256 → byte_of (two_of b) ≡ bit_xor (product 2 (sbox_of b)) 0xc6
unfolding entry nibble_sum first_half second_half half_sum double product_by_bits product inverse_power inverse affine_image sbox
byte_of-two = same_at_byte (λ b. byte_of (two_of b)) (λ b. bit_xor (product 2 (sbox_of b)) 0xc6) 0 refl

pub product-three : (b : ℕ) → b < 256 → product 3 (sbox_of b) ≡ bit_xor (product 2 (sbox_of b)) (sbox_of b)
unfolding entry nibble_sum double product_by_bits product inverse_power inverse affine_image sbox
product-three = same_at_byte (λ b. product 3 (sbox_of b)) (λ b. bit_xor (product 2 (sbox_of b)) (sbox_of b)) 0 refl

pub byte_of-lane_of : (b : ℕ) → b < 256 → byte_of (lane_of b) ≡ b
unfolding entry nibble_sum
byte_of-lane_of = same_at_byte (λ b. byte_of (lane_of b)) (λ b. b) 0 refl

pub byte_of-xor : (a b : ℕ) → a < 256 → b < 256 → byte_of (bit_xor a b) ≡ bit_xor (byte_of a) (byte_of b)
unfolding entry nibble_sum
byte_of-xor a b a_below b_below =
    same_at_byte (λ y. byte_of (bit_xor a y)) (λ y. bit_xor (byte_of a) (byte_of y)) 0
    (same_at_byte (λ x. map (λ y. byte_of (bit_xor x y)) (range_with_len 0 256)) (λ x. map (λ y. bit_xor (byte_of x) (byte_of y)) (range_with_len 0 256)) [] refl a a_below)
    b b_below

below_at : (f : ℕ → ℕ) → map (λ b. nat_lt (f b) 256) (range_with_len 0 256) ≡ map (λ _. true) (range_with_len 0 256) → (b : ℕ) → b < 256 → f b < 256
below_at f all b below = ltb-true (f b) 256 (same_at_byte (λ x. nat_lt (f x) 256) (λ _. true) true all b below)

pub one_below : (b : ℕ) → b < 256 → one_of b < 256
unfolding entry first_half second_half half_sum
one_below = below_at one_of refl

pub two_below : (b : ℕ) → b < 256 → two_of b < 256
unfolding entry first_half second_half half_sum
two_below = below_at two_of refl

lane_of_below : (b : ℕ) → b < 256 → lane_of b < 256
unfolding entry nibble_sum
lane_of_below = below_at lane_of refl

pub lanes_bytes : (x y : List ℕ) → AreBytes x → y ≡ map lane_of x → AreBytes y
lanes_bytes x y fits is = subst AreBytes (sym is) (each x fits)
  where
    each : (x : List ℕ) → AreBytes x → AreBytes (map lane_of x)
    each [] fits = tt
    each (b ∷ x) fits = (record { fits = lane_of_below b fits.0.fits }, each x fits.1)

-- the same steps of whole vectors
pub over_is : (x low over : List ℕ) → low ≡ map low_of x → over ≡ map (entry OVER) low → over ≡ map (λ b. entry OVER (b % 16)) x
over_is x low over = map-composed low_of (entry OVER) x low over

pub sum_is : (x low high : List ℕ) → low ≡ map low_of x → high ≡ map high_of x → zip2 bit_xor low high ≡ map sum_of x
sum_is x low high = zip2_of_maps bit_xor low_of high_of x

pub part_is : (f : ℕ → ℕ) (x y inverse over : List ℕ) →
    y ≡ map f x → inverse ≡ map (entry INVERSE) y → over ≡ map (λ b. entry OVER (b % 16)) x →
    zip2 bit_xor inverse over ≡ map (λ b. bit_xor (entry INVERSE (f b)) (entry OVER (b % 16))) x
part_is f x y inverse over before found overs =
    zip2_of_maps bit_xor (λ b. entry INVERSE (f b)) (λ b. entry OVER (b % 16)) x
    (map-composed f (entry INVERSE) x y inverse before found) overs

pub half_is : (f g : ℕ → ℕ) (x part inverse other : List ℕ) →
    part ≡ map f x → inverse ≡ map (entry INVERSE) part → other ≡ map g x →
    zip2 bit_xor inverse other ≡ map (λ b. bit_xor (entry INVERSE (f b)) (g b)) x
half_is f g x part inverse other before found others =
    zip2_of_maps bit_xor (λ b. entry INVERSE (f b)) g x (map-composed f (entry INVERSE) x part inverse before found) others

pub half_sum_is : (first second : List ℕ) (x one other y : List ℕ) → one ≡ map first_half x → other ≡ map second_half x →
    y ≡ zip2 bit_xor (map (entry first) one) (map (entry second) other) → y ≡ map (half_sum first second) x
unfolding half_sum
half_sum_is first second x one other y ones others is =
    is ∙ zip2_of_maps bit_xor (λ b. entry first (first_half b)) (λ b. entry second (second_half b)) x
    (map-composed first_half (entry first) x one _ ones refl)
    (map-composed second_half (entry second) x other _ others refl)
