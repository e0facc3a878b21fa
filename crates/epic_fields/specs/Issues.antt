-- What the issues of hops keep, over the keys and links of a topology.
use Rattle.std.specs.Prelude.{◌≡◌, ◌≢◌, ◌⊎◌, ℕ, ◌+◌, ◌<◌, List, replicate, true, Some, IsSome}
use Rattle.epic_num.specs.Chains.{Issue, issue_at}
use Rattle.epic_topo.specs.declared.link_kind.LinkKind.{LinkKind}
use Rattle.epic_topo.specs.Network.{Network, has, neighbour}
use Rattle.epic_fields.specs.Tags.{link}

-- an issue without a parent is the first hop of a segment
pub record IsRoot (i : Issue) : Type 0 where
  pub no_parent : i.parent ≡ 0
  pub position : i.name.body.pos ≡ 1
  pub no_ingress : i.name.body.inn ≡ 0
  pub no_link : i.name.body.link ≡ replicate 8 0

-- an issue with a parent, which is an earlier one, is the next hop behind the parent's egress, and carries the parent's
-- link tag
pub record IsChild (t : Network) (issues : List Issue) (number : ℕ) (i : Issue) : Type 0 where
  pub parent : Issue
  pub kind : LinkKind
  pub some_parent : i.parent ≢ 0
  pub earlier : i.parent < number
  pub is_parent : issue_at issues i.parent ≡ Some parent
  pub position : i.name.body.pos ≡ parent.name.body.pos + 1
  pub linked : i.name.body.link ≡ link t parent.name
  pub behind : neighbour t parent.name.asn parent.name.body.out ≡ Some (i.name.asn, i.name.body.inn, kind)

-- the issue of this number is of an AS of the topology and ends there or goes out over a link
pub record IsKept (t : Network) (issues : List Issue) (number : ℕ) (i : Issue) : Type 0 where
  pub known : has t i.name.asn ≡ true
  pub egress : (i.name.body.out ≡ 0) ⊎ IsSome (neighbour t i.name.asn i.name.body.out)
  pub placed : IsRoot i ⊎ IsChild t issues number i

-- every issue
abbrev pub IssuesKept : Network → List Issue → Type 0
IssuesKept t issues = (number : ℕ) (i : Issue) → issue_at issues number ≡ Some i → IsKept t issues number i
