-- What the beacons of a store keep whatever the topology: they make chains.
use Rattle.std.specs.Prelude.{◌≡◌, ◌≢◌, ◌⊎◌, ℕ, ◌+◌, ◌<◌, ◌≤◌, List, false, length, Some}
use Rattle.epic_num.specs.Chains.{chain}
use Rattle.epic_beacon.specs.declared.beacon.Beacon.{Beacon}
use Rattle.epic_beacon.specs.Issuing.{stands_in}
use Rattle.epic_beacon.specs.Store.{beacon_at, issues_of}

-- the beacon is the first hop of a chain, and isn't the last
pub record IsFirst (b : Beacon) : Type 0 where
  pub no_parent : b.parent ≡ 0
  pub position : b.name.body.pos ≡ 1
  pub no_ingress : b.name.body.inn ≡ 0
  pub leads_on : b.name.body.out ≢ 0

-- the beacon is the next hop of the chain of an earlier one, at an AS that doesn't stand there yet
pub record IsNext (beacons : List Beacon) (number : ℕ) (b : Beacon) : Type 0 where
  pub before : Beacon
  pub earlier : b.parent < number
  pub is_before : beacon_at beacons b.parent ≡ Some before
  pub position : b.name.body.pos ≡ before.name.body.pos + 1
  pub few : b.name.body.pos ≤ 16
  pub timestamp : b.name.body.ts_path ≡ before.name.body.ts_path
  pub apart : stands_in b.name.asn (chain (issues_of beacons) b.parent) ≡ false

abbrev pub IsChained : List Beacon → ℕ → Beacon → Type 0
IsChained beacons number b = IsFirst b ⊎ IsNext beacons number b

-- each beacon is one or the other, and there are at most 65,536
pub record AreChained (beacons : List Beacon) : Type 0 where
  pub few : length beacons ≤ 65536
  pub each : (number : ℕ) (b : Beacon) → beacon_at beacons number ≡ Some b → IsChained beacons number b
