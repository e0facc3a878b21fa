-- Private: serves proofs of this crate alone; no public contract cites it.
-- What the map of a store holds: the number of the beacon that a hop would be a twin of.
use Rattle.std.specs.Prelude.{◌≡◌, ℕ, List}
use Rattle.std.specs.Ordering.{nat_cmp, ordering_then}
use Rattle.std.specs.declared.cmp.Ordering.{Ordering}
use Rattle.std.specs.BTreeMap.{BTreeMap, get}
use Rattle.epic_num.specs.declared.hop.HopName.{HopName}
use Rattle.epic_beacon.specs.declared.beacon.Beacon.{Beacon}
use Rattle.epic_beacon.specs.Chained.{AreChained}
use Rattle.epic_beacon.specs.Issuing.{twin}

-- what twins share: AS, parent, egress, expiry, timestamp and generation
abbrev pub Likeness : Type 0
Likeness = ℕ × ℕ × ℕ × ℕ × ℕ × ℕ

abbrev pub likeness : HopName → ℕ → Likeness
likeness x parent = (x.asn.0, parent, x.body.out, x.body.exp, x.body.ts_path, x.generation)

-- the order of what twins share, part by part
abbrev pub likeness_cmp : Likeness → Likeness → Ordering
likeness_cmp k l =
    ordering_then
    (ordering_then
    (ordering_then (ordering_then (ordering_then (nat_cmp k.0 l.0) (nat_cmp k.1 l.1)) (nat_cmp k.2 l.2)) (nat_cmp k.3 l.3))
    (nat_cmp k.4 l.4))
    (nat_cmp k.5 l.5)

-- the map leads each hop, with its parent, to its twin
abbrev pub LeadsToTwins : BTreeMap Likeness ℕ → List Beacon → Type 0
LeadsToTwins twins beacons = (x : HopName) (parent : ℕ) → get likeness_cmp twins (likeness x parent) ≡ twin beacons x parent

-- beacons that make chains, with a map that leads to twins among them
pub record AreIndexed (twins : BTreeMap Likeness ℕ) (beacons : List Beacon) : Type 0 where
  pub chained : AreChained beacons
  pub leads : LeadsToTwins twins beacons
