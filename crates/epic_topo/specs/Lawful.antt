-- What every topology keeps that a text tells of.
use Rattle.std.specs.Prelude.{◌≡◌, ◌≢◌, ℕ, ◌<◌, ◌≤◌, true, false, length, All, AllPairs, Some, IfSome}
use Rattle.hex.specs.Hex.{IsBytes}
use Rattle.epic_num.specs.Moments.{IsProfile}
use Rattle.epic_num.specs.Names.{IsReadable}
use Rattle.epic_num.specs.declared.name.AsId.{AsId}
use Rattle.epic_topo.specs.Network.{Network, has, as_at, neighbour, turned, is_taken, follows_core_rule, keeps_core_rule, ends_at}
use Rattle.epic_topo.specs.declared.link_kind.LinkKind.{LinkKind}
use Rattle.epic_topo.specs.declared.network.End.{End}
use Rattle.epic_topo.specs.declared.network.Link.{Link}
use Rattle.epic_topo.specs.declared.network.System.{System}

-- an AS has a text, and its key is 16 bytes
pub record IsSystem (s : System) : Type 0 where
  pub named : IsReadable s.asn.0
  pub key : length s.master ≡ 16
  pub bytes : IsBytes s.master

-- a further AS fits into the topology
pub record IsNewSystem (n : Network) (s : System) : Type 0 where
  pub lawful : IsSystem s
  pub new : has n s.asn ≡ false

-- an end is at an interface of an AS of the topology
pub record IsEnd (n : Network) (e : End) : Type 0 where
  pub known : has n e.asn ≡ true
  pub some_iface : 1 ≤ e.iface
  pub iface : e.iface ≤ 65535

-- a link joins two ASes of the topology by the core rule
pub record IsLink (n : Network) (l : Link) : Type 0 where
  pub a : IsEnd n l.a
  pub b : IsEnd n l.b
  pub joins_two : l.a.asn ≢ l.b.asn
  pub rule : keeps_core_rule n l ≡ true

-- a further link fits into the topology
pub record IsNewLink (n : Network) (l : Link) : Type 0 where
  pub link : IsLink n l
  pub free_a : is_taken n l.a ≡ false
  pub free_b : is_taken n l.b ≡ false

-- no interface is an end of both
abbrev pub HasOtherEnds : Link → Link → Type 0
HasOtherEnds l m = (asn : AsId) (iface : ℕ) → ends_at asn iface l ≡ true → ends_at asn iface m ≡ false

pub record IsTopology (n : Network) : Type 0 where
  pub settings : IsProfile n.profile
  pub few_systems : length n.systems ≤ 4096
  pub few_links : length n.links ≤ 16384
  pub each_system : All IsSystem n.systems
  pub other_systems : AllPairs (λ s t. s.asn ≢ t.asn) n.systems
  pub each_link : All (IsLink n) n.links
  pub other_ends : AllPairs HasOtherEnds n.links

-- The link at an interface of an AS leads to the far end. It leads back from there, as what it is for
-- the AS there; its two ASes are in the topology and differ, and it keeps the core rule.
pub record IsLinked (n : Network) (asn : AsId) (iface : ℕ) (far : AsId × ℕ × LinkKind) : Type 0 where
  pub back : neighbour n far.0 far.1 ≡ Some (asn, iface, turned far.2)
  pub near_end : IsEnd n (record { asn = asn; iface = iface })
  pub far_end : IsEnd n (record { asn = far.0; iface = far.1 })
  pub joins_two : asn ≢ far.0
  pub rule : follows_core_rule n asn far.0 far.2 ≡ true

-- each link leads back
abbrev pub LinksLeadBack : Network → Type 0
LinksLeadBack n = (asn : AsId) (iface : ℕ) → IfSome (neighbour n asn iface) (IsLinked n asn iface)

-- each AS of the topology can be read from a text
abbrev pub HasReadableNames : Network → Type 0
HasReadableNames n = (asn : AsId) → has n asn ≡ true → IsReadable asn.0

-- each AS of the topology has one place among at most 4,096
pub record HasOnePlaceEach (n : Network) : Type 0 where
  pub place : (asn : AsId) → has n asn ≡ true → (i : ℕ) × (as_at n i ≡ Some asn)
  pub known : (i : ℕ) (asn : AsId) → as_at n i ≡ Some asn → (i < 4096) × (has n asn ≡ true)
  pub once : (i j : ℕ) (asn : AsId) → as_at n i ≡ Some asn → as_at n j ≡ Some asn → i ≡ j
