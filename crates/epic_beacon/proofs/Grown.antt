-- What was issued stays as it is when one more beacon is put behind it.
use Rattle.std.proofs.Common.{◌≡◌, ℕ, zero, suc, ◌+◌, ◌-◌, ◌≤◌, ◌<◌, List, [], ◌∷◌, ◌++◌, length, refl, sym, ◌∙◌, ap, arith, add-one, inl, inr}
use Rattle.std.specs.Prelude.{Some, None, ◌⊎◌, slice_get}
use Rattle.std.proofs.lemmas.Option.{slice_get_within}
use Rattle.std.proofs.Math.Dec.{eqb-suc-zero}
use Rattle.epic_beacon.specs.declared.beacon.Beacon.{Beacon}
use Rattle.epic_beacon.specs.Store.{beacon_at, issue_of, issues_of}

one_less : (n : ℕ) → suc n - 1 ≡ n
one_less n = omega arith

beacon_at-zero : (beacons : List Beacon) → beacon_at beacons 0 ≡ None
unfolding beacon_at
beacon_at-zero beacons = refl

beacon_at-suc : (beacons : List Beacon) (n : ℕ) → beacon_at beacons (suc n) ≡ slice_get beacons n
unfolding beacon_at
beacon_at-suc beacons n = rw (eqb-suc-zero n, one_less n)

-- a beacon has a number from 1 to the count of all
pub beacon_at-within : (beacons : List Beacon) (n : ℕ) (b : Beacon) → beacon_at beacons n ≡ Some b → (0 < n) × (n ≤ length beacons)
beacon_at-within beacons zero b h = let e : None ≡ Some b = sym (beacon_at-zero beacons) ∙ h in absurd (cc)
beacon_at-within beacons (suc n) b h =
    let lt : n < length beacons = slice_get_within beacons n b (sym (beacon_at-suc beacons n) ∙ h) in (omega arith, omega arith)

-- at a place of the longer list there is what was there, or the new one
placed : (xs : List Beacon) (y c : Beacon) (i : ℕ) → slice_get (xs ++ y ∷ []) i ≡ Some c → (slice_get xs i ≡ Some c) ⊎ ((i ≡ length xs) × (y ≡ c))
placed [] y c zero h = inr (refl, cc)
placed [] y c (suc i) h = absurd (cc)
placed (x ∷ xs) y c zero h = inl h
placed (x ∷ xs) y c (suc i) h = elim (placed xs y c i h) [ inl was ↦ inl was | inr new ↦ inr (ap suc new.0, new.1) ]

pub beacon_at-more : (beacons : List Beacon) (b c : Beacon) (n : ℕ) → beacon_at (beacons ++ b ∷ []) n ≡ Some c
    → (beacon_at beacons n ≡ Some c) ⊎ ((n ≡ length beacons + 1) × (b ≡ c))
beacon_at-more beacons b c zero h = let e : None ≡ Some c = sym (beacon_at-zero (beacons ++ b ∷ [])) ∙ h in absurd (cc)
beacon_at-more beacons b c (suc n) h =
    elim (placed beacons b c n (sym (beacon_at-suc (beacons ++ b ∷ []) n) ∙ h)) [
      | inl was ↦ inl (beacon_at-suc beacons n ∙ was)
      | inr new ↦ inr (omega (arith, new.0), new.1)
    ]

kept_place : (xs : List Beacon) (y c : Beacon) (i : ℕ) → slice_get xs i ≡ Some c → slice_get (xs ++ y ∷ []) i ≡ Some c
kept_place [] y c i h = absurd (cc)
kept_place (x ∷ xs) y c zero h = h
kept_place (x ∷ xs) y c (suc i) h = kept_place xs y c i h

pub beacon_at-stays : (beacons : List Beacon) (b c : Beacon) (n : ℕ) → beacon_at beacons n ≡ Some c → beacon_at (beacons ++ b ∷ []) n ≡ Some c
beacon_at-stays beacons b c zero h = let e : None ≡ Some c = sym (beacon_at-zero beacons) ∙ h in absurd (cc)
beacon_at-stays beacons b c (suc n) h =
    beacon_at-suc (beacons ++ b ∷ []) n ∙ kept_place beacons b c n (sym (beacon_at-suc beacons n) ∙ h)

pub issues_of-append : (beacons : List Beacon) (b : Beacon) → issues_of (beacons ++ b ∷ []) ≡ issues_of beacons ++ issue_of b ∷ []
issues_of-append [] b = refl
issues_of-append (c ∷ beacons) b = ap (λ is. issue_of c ∷ is) (issues_of-append beacons b)

pub length-issues_of : (beacons : List Beacon) → length (issues_of beacons) ≡ length beacons
length-issues_of [] = refl
length-issues_of (c ∷ beacons) = ap suc (length-issues_of beacons)

seam : (xs : List Beacon) (y : Beacon) → slice_get (xs ++ y ∷ []) (length xs) ≡ Some y
seam [] y = refl
seam (x ∷ xs) y = seam xs y

-- the new one has the next number
pub beacon_at-next : (beacons : List Beacon) (b : Beacon) → beacon_at (beacons ++ b ∷ []) (length beacons + 1) ≡ Some b
beacon_at-next beacons b = rw add-one (beacon_at-suc (beacons ++ b ∷ []) (length beacons) ∙ seam beacons b)
