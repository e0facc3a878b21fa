-- How the code keeps a state: a vector of 16 bytes, each in a basis of the field in which an inverse is a few look-ups
-- by nibbles. Each function on a byte here is what a step of the code does to one lane.
use Rattle.std.specs.Prelude.{ℕ, zero, suc, ◌+◌, ◌*◌, ◌/◌, ◌%◌, Bool, ◌||◌, nat_lt, nat_le, List, slice_index, bit_xor, if◌then◌else◌, map, ◌≡◌, true}
use Rattle.std.specs.List.{list_all}
use Rattle.std.specs.Int.{w8}
use Rattle.std.specs.Simd.Lanes.{Each1, zip2}
use mir.Val.{Fits}
use Rattle.epic_aes.specs.Cipher.{state}
use Rattle.epic_aes.specs.declared.tables.TheConstants.{INVERSE, OVER, ENTER_LOW, ENTER_HIGH, LEAVE_LOW, LEAVE_HIGH}

-- a place at which a table of 16 bytes can be looked up: its own, or one from 128 on, which gives 0
abbrev pub is_place : ℕ → Bool
is_place place = nat_le 128 place || nat_lt place 16

abbrev pub ArePlaces : List ℕ → Type 0
ArePlaces lanes = list_all is_place lanes ≡ true

abbrev pub AreBytes : List ℕ → Type 0
AreBytes lanes = Each1 (Fits w8) lanes

-- what a table gives at a place
unfoldable pub entry : List ℕ → ℕ → ℕ
entry table place = if nat_le 128 place then 0 else slice_index table place

-- what the two nibbles of a byte add up to, each by a table of its own
unfoldable pub nibble_sum : List ℕ → List ℕ → ℕ → ℕ
nibble_sum low high b = bit_xor (entry low (b % 16)) (entry high (b / 16))

-- the lane that stands for a byte of the standard, and the byte that a lane stands for
abbrev pub lane_of : ℕ → ℕ
lane_of b = nibble_sum ENTER_LOW ENTER_HIGH b

abbrev pub byte_of : ℕ → ℕ
byte_of b = nibble_sum LEAVE_LOW LEAVE_HIGH b

-- the two halves of the inverse of a byte
unfoldable pub first_half : ℕ → ℕ
first_half b =
    let part = bit_xor (entry INVERSE (b / 16)) (entry OVER (b % 16)) in
    bit_xor (entry INVERSE part) (bit_xor (b % 16) (b / 16))

unfoldable pub second_half : ℕ → ℕ
second_half b =
    let part = bit_xor (entry INVERSE (bit_xor (b % 16) (b / 16))) (entry OVER (b % 16)) in
    bit_xor (entry INVERSE part) (b / 16)

-- what the two halves of the inverse of a byte add up to, each by a table of its own
unfoldable pub half_sum : List ℕ → List ℕ → ℕ → ℕ
half_sum first second b = bit_xor (entry first (first_half b)) (entry second (second_half b))

-- Where the byte in row r and column c lies after n rounds. A round puts a byte where the one below it was, which ShiftRows
-- took there without moving it.
abbrev pub position : ℕ → ℕ → ℕ → ℕ
position zero r c = r + 4 * c
position (suc n) r c = position n ((r + 1) % 4) ((c + r + 1) % 4)

-- the state that lanes stand for after n rounds
abbrev pub state_of : ℕ → List ℕ → List ℕ
state_of n lanes = state (λ r c. byte_of (slice_index lanes (position n r c)))

-- the round key that lanes stand for where it is added then: they hold the constant of the S-box besides, which the look-ups
-- leave out
abbrev pub key_of : ℕ → List ℕ → List ℕ
key_of n lanes = state (λ r c. bit_xor (byte_of (slice_index lanes (position n r c))) 0x63)

-- MixColumns and AddRoundKey on lanes: those of the S-box, of its double, of the round key, and of the neighbours in a column, two
-- rows below and one above
abbrev pub mixed_lanes : List ℕ → List ℕ → List ℕ → List ℕ → List ℕ → List ℕ
mixed_lanes one two key opposite above =
    let sum = zip2 bit_xor two (map (entry one) opposite) in
    zip2 bit_xor (zip2 bit_xor (zip2 bit_xor one key) sum) (map (entry sum) above)

-- after how many rounds a state lies as round key r does; the last round leaves it in the standard's order
abbrev pub rounds_of_key : ℕ → ℕ
rounds_of_key r = r % 10
