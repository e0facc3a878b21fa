-- What links a chain is made of, by its first link.
use Rattle.std.specs.Prelude.{◌≡◌, ℕ, List, Option, Some, option_map, option_and_then, slice_get}
use Rattle.epic_num.specs.Chains.{Issue, chain}
use Rattle.epic_topo.specs.declared.link_kind.LinkKind.{LinkKind}
use Rattle.epic_topo.specs.Network.{Network}
use Rattle.epic_beacon.specs.declared.beacon.Beacon.{Beacon}
use Rattle.epic_beacon.specs.Issuing.{link_at, kind_by}
use Rattle.epic_beacon.specs.Store.{beacon_at, issues_of}

-- the link at the egress of an issue's chain's first hop
unfoldable pub first_link : Network → List Issue → ℕ → Option LinkKind
first_link t issues number = option_and_then (λ x. link_at t x.asn x.body.out) (slice_get (chain issues number) 0)

-- the first link of each chain has the kind that it had when the chain was begun
abbrev pub KindsKept : Network → List Beacon → Type 0
KindsKept t beacons =
    (number : ℕ) (b : Beacon) → beacon_at beacons number ≡ Some b
    → option_map kind_by (first_link t (issues_of beacons) number) ≡ Some b.kind
