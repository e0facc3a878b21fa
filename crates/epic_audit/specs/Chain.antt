-- The whole chain: what the ledger says of a segment all of whose hops were accepted.
use Rattle.std.specs.Prelude.{◌≡◌, ◌⊎◌, ℕ, ◌+◌, ◌<◌, true, List, [], ◌∷◌, ◌++◌, length, map, reverse, All, Some, slice_get, slice_index_or, if◌then◌else◌}
use Rattle.std.specs.List.{AllZip, range_with_len}
use Rattle.epic_num.specs.declared.hop.HopName.{HopName}
use Rattle.epic_num.specs.Chains.{Issue, chain, is_ended}
use Rattle.epic_layout.specs.declared.head.SegmentHead.{SegmentHead}
use Rattle.epic_layout.specs.Laws.{hops_before}
use Rattle.epic_layout.specs.Contents.{IsRoute}
use Rattle.epic_layout.specs.Route.{Route, no_segment}
use Rattle.epic_layout.specs.Spelling.{path_bytes}
use Rattle.epic_topo.specs.Network.{Network}
use Rattle.epic_ledger.specs.Facts.{Facts, Pass, pass_name}
use Rattle.epic_audit.specs.Clauses.{IsIssued, GoesOnFrom}
use Rattle.epic_audit.specs.Collided.{HaveOneLink}
use Rattle.epic_audit.specs.Kept.{Kept, ArePackets}

-- ---- a segment that was accepted

-- the hops of segment i, by their indexes in the packet, in travel order
unfoldable pub travelled : List SegmentHead → ℕ → List ℕ
travelled segments i = range_with_len (hops_before segments i) (slice_index_or segments i no_segment).count

-- the same in construction order
unfoldable pub built : List SegmentHead → ℕ → List ℕ
built segments i =
    if (slice_index_or segments i no_segment).against then reverse (travelled segments i) else travelled segments i

-- the hop was accepted at index j of a packet with the route's path bytes
pub record IsPassAt (passes : List Pass) (route : Route) (j : ℕ) (w : Pass) : Type 0 where
  pub index : ℕ
  pub there : slice_get passes index ≡ Some w
  pub hop_is : w.hop ≡ j
  pub path_is : path_bytes w.packet.route ≡ path_bytes route

-- so were these: one for each hop of segment i, in construction order
pub record ArePassesOf (passes : List Pass) (route : Route) (i : ℕ) (ws : List Pass) : Type 0 where
  pub segment_there : i < length route.segments
  pub each : AllZip (IsPassAt passes route) (built route.segments i) ws

-- ---- its chain

-- the hops are the chain of an ended issue
pub record IsIssuedChain (issues : List Issue) (names : List HopName) : Type 0 where
  pub number : ℕ
  pub ended : is_ended issues number ≡ true
  pub chain_is : chain issues number ≡ names

-- one of the hops has the link tag of another, from which an issue of the next hop goes on
pub record IsBrokenChain (t : Network) (issues : List Issue) (names : List HopName) : Type 0 where
  pub index : ℕ
  pub name : HopName
  pub next : HopName
  pub parent : HopName
  pub there : slice_get names index ≡ Some name
  pub next_there : slice_get names (index + 1) ≡ Some next
  pub goes_on : GoesOnFrom issues next parent
  pub one_link : HaveOneLink t name parent

-- the hops were issued as one chain, unless two hops have one link tag
abbrev pub IsWhole : Network → List Issue → List HopName → Type 0
IsWhole t issues names = IsIssuedChain issues names ⊎ IsBrokenChain t issues names

-- ---- laws

-- Where all hops of a segment were accepted, perhaps on different packets but with the same path bytes, and the last of them
-- in construction order was issued, they are whole.
abbrev pub SegmentsAreWhole : Network → Facts → Type 0
SegmentsAreWhole t f =
    (route : Route) (i : ℕ) (ws : List Pass) (last : Pass)
    → IsRoute route → ArePassesOf f.passes route i (ws ++ last ∷ []) → IsIssued f.issues (pass_name last)
    → IsWhole t f.issues (map pass_name (ws ++ last ∷ []))

-- the same where each of them was issued
abbrev pub IssuedSegmentsAreWhole : Network → Facts → Type 0
IssuedSegmentsAreWhole t f =
    (route : Route) (i : ℕ) (ws : List Pass)
    → IsRoute route → ArePassesOf f.passes route i ws → All (λ w. IsIssued f.issues (pass_name w)) ws
    → IsWhole t f.issues (map pass_name ws)

-- both hold of each ledger of a world
abbrev pub ChainsAreWhole : Type 0
ChainsAreWhole = (t : Network) (f : Facts) → ArePackets f → Kept t f → SegmentsAreWhole t f

abbrev pub IssuedChainsAreWhole : Type 0
IssuedChainsAreWhole = (t : Network) (f : Facts) → ArePackets f → Kept t f → IssuedSegmentsAreWhole t f
