-- A store of beacons as a value: the hops that were issued, in order, and the generation of each AS's forwarding key.
use Rattle.std.specs.Prelude.{◌≡◌, ℕ, ◌+◌, ◌-◌, ◌==◌, if◌then◌else◌, List, [], ◌∷◌, ◌++◌, map, Option, None, Result, Ok, Err, slice_get, unwrap_or}
use Rattle.std.specs.Ordering.{nat_cmp}
use Rattle.std.specs.BTreeMap.{is_at}
use Rattle.std.specs.Map.{lookup}
use Rattle.epic_num.specs.declared.memory.OutOfMemory.{OutOfMemory}
use Rattle.epic_num.specs.declared.name.AsId.{AsId}
use Rattle.epic_num.specs.Chains.{Issue}
use Rattle.epic_num.specs.Same.{same_as}
use Rattle.epic_beacon.specs.declared.beacon.Beacon.{Beacon}

-- the generation of an AS's forwarding key is how often the AS has rolled it
pub record Store : Type 0 where
  pub beacons : List Beacon
  pub generations : AsId → ℕ

-- what is seen of the object that holds a store: the entries of its map of generations are read by `store_of` alone
pub record Held : Type 0 where
  pub beacons : List Beacon
  pub entries : List (ℕ × ℕ)

-- how often an AS has rolled, by its number, 0 where none is told
unfoldable pub generation_in : List (ℕ × ℕ) → AsId → ℕ
generation_in entries a = unwrap_or (lookup (is_at (nat_cmp a.0)) entries) 0

abbrev pub store_of : Held → Store
store_of h = record { beacons = h.beacons; generations = generation_in h.entries }

-- nothing was issued, and no AS has rolled
abbrev pub no_beacons : Store
no_beacons = record { beacons = []; generations = λ a. 0 }

abbrev pub issue_of : Beacon → Issue
issue_of b = record { name = b.name; parent = b.parent }

-- the issues, without their authenticators
abbrev pub issues_of : List Beacon → List Issue
issues_of beacons = map issue_of beacons

-- the beacon with a number: they count from 1, in order
unfoldable pub beacon_at : List Beacon → ℕ → Option Beacon
beacon_at beacons number = if number == 0 then None else slice_get beacons (number - 1)

-- with one more beacon, the last
abbrev pub with_beacon : Store → Beacon → Store
with_beacon s b = record s { beacons = s.beacons ++ b ∷ [] }

-- with one more roll of an AS
abbrev pub with_roll : Store → AsId → Store
with_roll s a = record s { generations = λ b. if same_as a b then s.generations b + 1 else s.generations b }

-- one more roll of an AS, which answers the new generation; want of memory changes nothing
abbrev pub Rolls : Store → Store → AsId → Result ℕ OutOfMemory → Type 0
Rolls old new a (Ok g) = (g ≡ old.generations a + 1) × (new ≡ with_roll old a)
Rolls old new a (Err e) = new ≡ old
