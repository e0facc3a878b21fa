-- Vectors of bytes, lane by lane: what holds of each byte holds of each lane.
use Rattle.std.proofs.Common.{◌≡◌, ℕ, zero, suc, ◌+◌, ◌*◌, ◌/◌, ◌<◌, ◌≤◌, true, ◌&&◌, ◌||◌, cond, nat_le, List, [], ◌∷◌, length, map, get_or, refl, ap, sym, ◌∙◌, subst, zero-add, lit<, arith}
use Rattle.std.specs.Int.{w8}
use Rattle.std.specs.List.{range_with_len, list_all}
use Rattle.std.specs.Simd.Lanes.{Each1}
use Rattle.std.proofs.lemmas.Bool.{and_parts}
use Rattle.std.proofs.lemmas.List.FromFn.{get_or-map-range_with_len}
use Rattle.std.proofs.lemmas.Simd.{swz_l, map-map, pick_l_whole}
use lib.Dec.{T, ltb}
use mir.Val.{Fits, zeroes}
use Rattle.epic_aes.specs.Lanes.{is_place, ArePlaces, entry}

-- two functions that agree on all 256 bytes, by computing
pub same_at_byte : {X : Type 0} (f g : ℕ → X) (d : X) → map f (range_with_len 0 256) ≡ map g (range_with_len 0 256) →
    (b : ℕ) → b < 256 → f b ≡ g b
same_at_byte f g d all b below =
    sym (get_or-map-range_with_len f 0 256 b b d below (zero-add b))
    ∙ ap (λ xs. get_or xs b d) all
    ∙ get_or-map-range_with_len g 0 256 b b d below (zero-add b)

-- functions that agree on bytes agree on lanes
pub map-bytes : {X : Type 0} (f g : ℕ → X) → ((b : ℕ) → b < 256 → f b ≡ g b) →
    (x : List ℕ) → Each1 (Fits w8) x → map f x ≡ map g x
map-bytes f g same [] fits = refl
map-bytes f g same (b ∷ x) fits = λ i. same b fits.0.fits i ∷ map-bytes f g same x fits.1 i

-- lanes that were computed in two steps
pub map-composed : (f g : ℕ → ℕ) (x y z : List ℕ) → y ≡ map f x → z ≡ map g y → z ≡ map (λ b. g (f b)) x
map-composed f g x y z first second = second ∙ ap (map g) first ∙ map-map g f x

-- lanes that are places, since what each byte gives is one
pub places-map : (f : ℕ → ℕ) → map (λ b. is_place (f b)) (range_with_len 0 256) ≡ map (λ _. true) (range_with_len 0 256) →
    (x y : List ℕ) → Each1 (Fits w8) x → y ≡ map f x → ArePlaces y
places-map f all x y fits is = subst ArePlaces (sym is) (each x fits)
  where
    each : (x : List ℕ) → Each1 (Fits w8) x → ArePlaces (map f x)
    each [] fits = refl
    each (b ∷ x) fits =
        (λ i. same_at_byte (λ b. is_place (f b)) (λ _. true) true all b fits.0.fits i && list_all is_place (map f x)) ∙ each x fits.1

-- the form in which a swizzle asks for places
pub each_place : (places : List ℕ) → ArePlaces places → Each1 (λ j. T (zeroes 16 w8 j || ltb j 16)) places
each_place [] are = tt
each_place (j ∷ places) are =
    let parts = and_parts (is_place j) (list_all is_place places) are in
    (subst T (sym parts.0) tt, each_place places parts.1)

-- a swizzle within one block of 16 lanes looks its places up
pub swizzle_entries : (table places : List ℕ) (i : ℕ) → i + length places ≤ 16 → swz_l w8 16 table i places ≡ map (entry table) places
unfolding entry
swizzle_entries table [] i room = refl
swizzle_entries table (j ∷ places) i room =
    let here : 16 * (i / 16) + j ≡ j = omega arith in
    let more : suc i + length places ≤ 16 = omega arith in
    λ k. cond (nat_le 128 j) 0 (get_or table (here k) 0) ∷ swizzle_entries table places (suc i) more k

-- a lane is a byte
pub lane_below : (x : List ℕ) → Each1 (Fits w8) x → (i : ℕ) → get_or x i 0 < 256
lane_below [] fits i = lit< tt
lane_below (b ∷ x) fits zero = fits.0.fits
lane_below (b ∷ x) fits (suc i) = lane_below x fits.1 i

-- a vector, lane by lane
abbrev pub lanes_of : List ℕ → List ℕ
lanes_of x = map (λ i. get_or x i 0) (range_with_len 0 16)

pub lanes_are : (x : List ℕ) → length x ≡ 16 → x ≡ lanes_of x
lanes_are x long = sym (pick_l_whole 0 x 16 long)

-- a function that leaves bytes as they are leaves lanes as they are
pub map-same : (f : ℕ → ℕ) → ((b : ℕ) → b < 256 → f b ≡ b) → (x : List ℕ) → Each1 (Fits w8) x → map f x ≡ x
map-same f same [] fits = refl
map-same f same (b ∷ x) fits = λ i. same b fits.0.fits i ∷ map-same f same x fits.1 i
