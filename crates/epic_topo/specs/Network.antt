-- A topology as a value: its settings, its ASes and its links, and what can be asked of it.
use Rattle.std.specs.Prelude.{ℕ, Bool, false, not, ◌&&◌, ◌||◌, ◌==◌, if◌then◌else◌, List, [], ◌∷◌, ◌++◌, Option, find, is_some, unwrap_or, option_map, slice_get}
use Rattle.epic_num.specs.Names.{isd_part}
use Rattle.epic_num.specs.Same.{same_as}
use Rattle.epic_num.specs.declared.name.AsId.{AsId}
use Rattle.epic_num.specs.declared.profile.Profile.{Profile}
use Rattle.epic_topo.specs.declared.link_kind.LinkKind.{LinkKind}
use Rattle.epic_topo.specs.declared.link_kind.LinkKind.TheVariants.{Core, Parent, Child}
use Rattle.epic_topo.specs.declared.network.End.{End}
use Rattle.epic_topo.specs.declared.network.Link.{Link}
use Rattle.epic_topo.specs.declared.network.System.{System}

-- the settings of a topology, and its ASes and links in the order of its file
pub record Network : Type 0 where
  pub profile : Profile
  pub systems : List System
  pub links : List Link

-- ---- its ASes

-- the entry of an AS
abbrev pub system_of : Network → AsId → Option System
system_of n asn = find (λ s. same_as s.asn asn) n.systems

-- whether the topology has the AS
unfoldable pub has : Network → AsId → Bool
has n asn = is_some (system_of n asn)

-- whether it has the AS, as a core AS
unfoldable pub is_core : Network → AsId → Bool
is_core n asn = unwrap_or (option_map (λ s. s.is_core) (system_of n asn)) false

-- the master key of an AS
unfoldable pub master : Network → AsId → Option (List ℕ)
master n asn = option_map (λ s. s.master) (system_of n asn)

-- the AS at a place in the file, from 0
unfoldable pub as_at : Network → ℕ → Option AsId
as_at n i = option_map (λ s. s.asn) (slice_get n.systems i)

-- ---- its links

-- what a link is at the other end
abbrev pub turned : LinkKind → LinkKind
turned Core = Core
turned Parent = Child
turned Child = Parent

-- the end is at that interface of the AS
abbrev pub is_end : AsId → ℕ → End → Bool
is_end asn iface e = same_as e.asn asn && e.iface == iface

-- the link ends at that interface of the AS
abbrev pub ends_at : AsId → ℕ → Link → Bool
ends_at asn iface l = is_end asn iface l.a || is_end asn iface l.b

-- the other end of a link that ends there, and what the link is for this AS
abbrev pub other_end : AsId → ℕ → Link → AsId × ℕ × LinkKind
other_end asn iface l =
    if is_end asn iface l.a then (l.b.asn, l.b.iface, l.kind) else (l.a.asn, l.a.iface, turned l.kind)

-- the link at an interface of an AS
abbrev pub link_at : Network → AsId → ℕ → Option Link
link_at n asn iface = find (ends_at asn iface) n.links

-- the other end of the link at an interface of an AS, and what the link is for this AS
unfoldable pub neighbour : Network → AsId → ℕ → Option (AsId × ℕ × LinkKind)
neighbour n asn iface = option_map (other_end asn iface) (link_at n asn iface)

-- a link has this end
abbrev pub is_taken : Network → End → Bool
is_taken n e = is_some (neighbour n e.asn e.iface)

-- the two are of one isolation domain
abbrev pub same_isd : AsId → AsId → Bool
same_isd a b = isd_part a.0 == isd_part b.0

-- Core links join core ASes. A child is no core AS, and is of its parent's isolation domain.
abbrev pub follows_core_rule : Network → AsId → AsId → LinkKind → Bool
follows_core_rule n a b Core = is_core n a && is_core n b
follows_core_rule n a b Parent = not (is_core n b) && same_isd a b
follows_core_rule n a b Child = not (is_core n a) && same_isd a b

unfoldable pub keeps_core_rule : Network → Link → Bool
keeps_core_rule n l = follows_core_rule n l.a.asn l.b.asn l.kind

-- ---- a topology that grows

-- with one more AS
abbrev pub with_system : Network → System → Network
with_system n s = record n { systems = n.systems ++ s ∷ [] }

-- with one more link
abbrev pub with_link : Network → Link → Network
with_link n l = record n { links = n.links ++ l ∷ [] }
