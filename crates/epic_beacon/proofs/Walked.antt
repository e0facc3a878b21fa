-- A chain, one issue at a time from its last.
use Rattle.std.proofs.Common.{◌≡◌, ℕ, suc, ◌-◌, Bool, true, false, ◌||◌, List, [], ◌∷◌, ◌++◌, refl, ◌∙◌, ap}
use Rattle.std.specs.Prelude.{Option, Some, None, option_map, slice_get, if◌then◌else◌, ◌==◌}
use Rattle.std.specs.List.{list_any}
use Rattle.std.specs.Option.{option_map_or}
use Rattle.std.proofs.lemmas.Option.{slice_get-map}
use Rattle.epic_num.specs.declared.hop.HopName.{HopName}
use Rattle.epic_num.specs.declared.name.AsId.{AsId}
use Rattle.epic_num.specs.Chains.{Issue, issue_at, last_names}
use Rattle.epic_num.specs.Same.{same_as}
use Rattle.epic_beacon.specs.declared.beacon.Beacon.{Beacon}
use Rattle.epic_beacon.specs.Issuing.{stands_in}
use Rattle.epic_beacon.specs.Store.{beacon_at, issue_of, issues_of}

-- an issue is a beacon without its authenticator
pub issue_at-issues_of : (beacons : List Beacon) (n : ℕ) → issue_at (issues_of beacons) n ≡ option_map issue_of (beacon_at beacons n)
unfolding issue_at beacon_at
issue_at-issues_of beacons n = by_test (n == 0)
  where
    by_test : (b : Bool) → (if b then None else slice_get (issues_of beacons) (n - 1)) ≡ option_map issue_of (if b then None else slice_get beacons (n - 1))
    by_test true = refl
    by_test false = slice_get-map issue_of beacons (n - 1)

any_last : (p : HopName → Bool) (xs : List HopName) (y : HopName) → list_any p (xs ++ y ∷ []) ≡ (p y || list_any p xs)
any_last p [] y = flip (p y)
  where
    flip : (b : Bool) → (b || false) ≡ (b || false)
    flip b = refl
any_last p (x ∷ xs) y = ap (λ b. p x || b) (any_last p xs y) ∙ swapped (p x) (p y) (list_any p xs)
  where
    swapped : (a b c : Bool) → (a || (b || c)) ≡ (b || (a || c))
    swapped true true c = refl
    swapped true false c = refl
    swapped false b c = refl

-- the chain of a beacon with this parent, which isn't of the AS, has the AS where the parent's chain has it
pub walked_on : (beacons : List Beacon) (a : AsId) (m n : ℕ) (b : Beacon) → beacon_at beacons n ≡ Some b → same_as b.name.asn a ≡ false
    → stands_in a (last_names (issues_of beacons) (suc m) n) ≡ stands_in a (last_names (issues_of beacons) m b.parent)
unfolding stands_in last_names
walked_on beacons a m n b there other =
    ap (λ (o : Option Issue). list_any (λ x. same_as x.asn a) (option_map_or (λ i. last_names (issues_of beacons) m i.parent ++ i.name ∷ []) o []))
    (issue_at-issues_of beacons n ∙ ap (option_map issue_of) there)
    ∙ (any_last (λ x. same_as x.asn a) (last_names (issues_of beacons) m b.parent) b.name
    ∙ ap (λ t. t || list_any (λ x. same_as x.asn a) (last_names (issues_of beacons) m b.parent)) other)

-- that of a beacon of the AS has it
pub walked_into : (beacons : List Beacon) (a : AsId) (m n : ℕ) (b : Beacon) → beacon_at beacons n ≡ Some b → same_as b.name.asn a ≡ true
    → stands_in a (last_names (issues_of beacons) (suc m) n) ≡ true
unfolding stands_in last_names
walked_into beacons a m n b there same =
    ap (λ (o : Option Issue). list_any (λ x. same_as x.asn a) (option_map_or (λ i. last_names (issues_of beacons) m i.parent ++ i.name ∷ []) o []))
    (issue_at-issues_of beacons n ∙ ap (option_map issue_of) there)
    ∙ (any_last (λ x. same_as x.asn a) (last_names (issues_of beacons) m b.parent) b.name
    ∙ ap (λ t. t || list_any (λ x. same_as x.asn a) (last_names (issues_of beacons) m b.parent)) same)

-- past the first hop there is nothing
pub walked_off : (beacons : List Beacon) (a : AsId) (m n : ℕ) → beacon_at beacons n ≡ None
    → stands_in a (last_names (issues_of beacons) (suc m) n) ≡ false
unfolding stands_in last_names
walked_off beacons a m n gone =
    ap (λ (o : Option Issue). list_any (λ x. same_as x.asn a) (option_map_or (λ i. last_names (issues_of beacons) m i.parent ++ i.name ∷ []) o []))
    (issue_at-issues_of beacons n ∙ ap (option_map issue_of) gone)

-- of no hops there is none
pub walked_out : (beacons : List Beacon) (a : AsId) (n : ℕ) → stands_in a (last_names (issues_of beacons) 0 n) ≡ false
unfolding stands_in last_names
walked_out beacons a n = refl

pub last_names-there : (beacons : List Beacon) (m n : ℕ) (b : Beacon) → beacon_at beacons n ≡ Some b
    → last_names (issues_of beacons) (suc m) n ≡ last_names (issues_of beacons) m b.parent ++ b.name ∷ []
unfolding last_names
last_names-there beacons m n b there =
    ap (λ (o : Option Issue). option_map_or (λ i. last_names (issues_of beacons) m i.parent ++ i.name ∷ []) o [])
    (issue_at-issues_of beacons n ∙ ap (option_map issue_of) there)

pub last_names-gone : (beacons : List Beacon) (m n : ℕ) → beacon_at beacons n ≡ None → last_names (issues_of beacons) (suc m) n ≡ []
unfolding last_names
last_names-gone beacons m n gone =
    ap (λ (o : Option Issue). option_map_or (λ i. last_names (issues_of beacons) m i.parent ++ i.name ∷ []) o [])
    (issue_at-issues_of beacons n ∙ ap (option_map issue_of) gone)
