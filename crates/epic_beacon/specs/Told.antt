-- The beacons that a row of issues tells of: their authenticators and the kinds of their chains follow from the topology.
use Rattle.std.specs.Prelude.{◌==◌, if◌then◌else◌, List, [], ◌∷◌, ◌++◌}
use Rattle.std.specs.Option.{option_map_or}
use Rattle.epic_num.specs.Chains.{Issue}
use Rattle.epic_num.specs.declared.segment.SegKind.{SegKind}
use Rattle.epic_num.specs.declared.segment.SegKind.TheVariants.{Core}
use Rattle.epic_topo.specs.Network.{Network}
use Rattle.epic_beacon.specs.declared.beacon.Beacon.{Beacon}
use Rattle.epic_beacon.specs.Issuing.{beacon_of, link_at, kind_by}
use Rattle.epic_beacon.specs.Store.{beacon_at}

-- what links the chain of an issue is made of: those of the issue that it goes on from, or of its own link
unfoldable pub kind_after : Network → List Beacon → Issue → SegKind
kind_after t beacons i =
    if i.parent == 0 then option_map_or kind_by (link_at t i.name.asn i.name.body.out) Core
    else option_map_or (λ b. b.kind) (beacon_at beacons i.parent) Core

-- the beacons, and those of further issues after them
unfoldable pub beacons_after : Network → List Beacon → List Issue → List Beacon
beacons_after t beacons [] = beacons
beacons_after t beacons (i ∷ issues) =
    beacons_after t (beacons ++ beacon_of t i.name i.parent (kind_after t beacons i) ∷ []) issues

-- the beacons of issues in turn
unfoldable pub beacons_in : Network → List Issue → List Beacon
beacons_in t issues = beacons_after t [] issues
