-- The segments and hops of a packet, without the hops' fields, and the place of each hop among them.
use Rattle.std.specs.Prelude.{ℕ, ◌+◌, ◌-◌, ◌==◌, nat_lt, Bool, false, List, [], ◌∷◌, replicate, slice_index_or, if◌then◌else◌}
use Rattle.std.specs.Prelude.{Option, Some, None}
use Rattle.std.specs.List.{sum_by}
use Rattle.epic_num.specs.declared.hop.Body.{Body}
use Rattle.epic_layout.specs.declared.head.SegmentHead.{SegmentHead}
use Rattle.epic_layout.specs.declared.head.HopHead.{HopHead}
use Rattle.epic_layout.specs.declared.head.HopPlace.{HopPlace}
use Rattle.epic_layout.specs.declared.wire.TheConstants.{LINK_LEN}

-- what the path bytes of a packet say: its segments in travel order, and all its hops in travel order
pub record Route : Type 0 where
  pub segments : List SegmentHead
  pub hops : List HopHead

-- what stands in the place of a segment that isn't there
abbrev pub no_segment : SegmentHead
no_segment = record { against = false; count = 0; ts_path = 0 }

-- what stands in the place of a hop that isn't there
abbrev pub no_hop : HopHead
no_hop = record { exp = 0; inn = 0; out = 0; link = replicate LINK_LEN 0 }

-- the number of hops of all segments
unfoldable pub hops_of : List SegmentHead → ℕ
hops_of segments = sum_by (λ s. s.count) segments

-- the place of hop j among segments that are numbered from n on
unfoldable pub place_from : ℕ → List SegmentHead → ℕ → HopPlace
place_from n [] j = record { segment = n; head = no_segment; index = 0 }
place_from n (s ∷ segments) j =
    if nat_lt j s.count then record { segment = n; head = s; index = j } else place_from (n + 1) segments (j - s.count)

-- The segment that hop j of the packet stands in and the hop's index there, both from 0 in travel order: the first
-- segment that has more hops than are left to pass.
unfoldable pub place : List SegmentHead → ℕ → HopPlace
place segments j = place_from 0 segments j

-- the hop's place in its segment in construction order, from 1
unfoldable pub position : HopPlace → ℕ
position p = if p.head.against then p.head.count - p.index else p.index + 1

-- the hop is the first of its segment in travel order
unfoldable pub is_first : HopPlace → Bool
is_first p = p.index == 0

-- the hop is the last of its segment in travel order
unfoldable pub is_last : HopPlace → Bool
is_last p = p.index + 1 == p.head.count

-- the hop of the same segment whose position is one greater, where j is at the place
unfoldable pub successor : HopPlace → ℕ → Option ℕ
successor p j =
    if position p == p.head.count then None else Some (if p.head.against then j - 1 else j + 1)

-- the interface by which a packet comes to the hop
abbrev pub ingress_of : Bool → HopHead → ℕ
ingress_of against hop = if against then hop.out else hop.inn

-- the interface by which a packet leaves the hop
abbrev pub egress_of : Bool → HopHead → ℕ
egress_of against hop = if against then hop.inn else hop.out

unfoldable pub hop : Route → ℕ → HopHead
hop route j = slice_index_or route.hops j no_hop

unfoldable pub ingress : Route → ℕ → ℕ
ingress route j = ingress_of (place route.segments j).head.against (hop route j)

unfoldable pub egress : Route → ℕ → ℕ
egress route j = egress_of (place route.segments j).head.against (hop route j)

-- the hop as its AS authenticates it
abbrev pub body_at : HopPlace → HopHead → Body
body_at p h = record {
  pos = position p;
  exp = h.exp;
  ts_path = p.head.ts_path;
  inn = h.inn;
  out = h.out;
  link = h.link;
}

unfoldable pub body : Route → ℕ → Body
body route j = body_at (place route.segments j) (hop route j)
