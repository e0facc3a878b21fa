-- Private: serves proofs of this crate alone; no public contract cites it.
-- What the maps of a topology hold: at which place of its lists an AS stands, and the link at an interface.
use Rattle.std.specs.Prelude.{◌≡◌, ℕ, ◌<◌, Bool, List, length, Option, Some, None, find, slice_get}
use Rattle.std.specs.Ordering.{nat_cmp, ordering_then}
use Rattle.std.specs.declared.cmp.Ordering.{Ordering}
use Rattle.std.specs.BTreeMap.{BTreeMap, get}
use Rattle.epic_num.specs.declared.name.AsId.{AsId}
use Rattle.epic_topo.specs.Lawful.{IsTopology}
use Rattle.epic_num.specs.Same.{same_as}
use Rattle.epic_topo.specs.Network.{Network, ends_at}

-- the place of the first element that passes, if there is one
abbrev pub IsPlace : {X : Type 0} → (X → Bool) → List X → Option ℕ → Type 0
IsPlace p xs None = find p xs ≡ None
IsPlace p xs (Some i) = (i < length xs) × (slice_get xs i ≡ find p xs)

-- the order of the ends of links: by their AS, and then by their interface
abbrev pub end_cmp : ℕ × ℕ → ℕ × ℕ → Ordering
end_cmp e f = ordering_then (nat_cmp e.0 f.0) (nat_cmp e.1 f.1)

-- the maps lead to the ASes and links of a lawful topology
pub record IsIndexed (systems : BTreeMap ℕ ℕ) (links : BTreeMap (ℕ × ℕ) ℕ) (n : Network) : Type 0 where
  pub each_system : (asn : AsId) → IsPlace (λ s. same_as s.asn asn) n.systems (get nat_cmp systems asn.0)
  pub each_end : (asn : AsId) (iface : ℕ) → IsPlace (ends_at asn iface) n.links (get end_cmp links (asn.0, iface))
  pub lawful : IsTopology n
