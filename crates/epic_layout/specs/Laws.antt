-- What holds of all packets and of all bytes.
use Rattle.std.specs.Prelude.{◌≡◌, ℕ, ◌+◌, ◌-◌, ◌<◌, true, false, List, length, take, slice_index_or, Some}
use Rattle.std.specs.List.{All}
use Rattle.std.specs.Bool.{MatchBool}
use Rattle.epic_layout.specs.declared.head.SegmentHead.{SegmentHead}
use Rattle.epic_layout.specs.declared.head.HopPlace.{HopPlace}
use Rattle.epic_layout.specs.Route.{Route, no_segment, hops_of, place, position, is_first, is_last, successor, ingress, egress, body}
use Rattle.epic_layout.specs.Contents.{Contents, IsBytes, IsSegment, IsRoute, IsPacket, HoldsBytes, header_len}
use Rattle.epic_layout.specs.Spelling.{path_bytes, spelling, Spells}

-- ---- spellings

-- a packet within the limits has a spelling
abbrev pub PacketsAreSpelled : Type 0
PacketsAreSpelled = (p : Contents) → IsPacket p → Spells (spelling p) p

-- and no other bytes spell it: what has no fault is a packet within the limits, and is spelled so
abbrev pub SpellingsAreOne : Type 0
SpellingsAreOne =
    (bytes : List ℕ) (p : Contents) → IsBytes bytes → Spells bytes p → IsPacket p × HoldsBytes p × (bytes ≡ spelling p)

-- bytes spell at most one packet
abbrev pub PacketsAreOne : Type 0
PacketsAreOne = (bytes : List ℕ) (p q : Contents) → Spells bytes p → Spells bytes q → p ≡ q

-- a packet is spelled in as many bytes as its header and its payload have
abbrev pub SpellingsHaveLengths : Type 0
SpellingsHaveLengths = (p : Contents) → IsPacket p → length (spelling p) ≡ header_len p + length p.payload

-- ---- path bytes

-- the hops of two routes are the same, and so are their places
pub record SameHops (x y : Route) : Type 0 where
  pub routes : x ≡ y
  pub bodies : (j : ℕ) → body x j ≡ body y j
  pub places : (j : ℕ) → place x.segments j ≡ place y.segments j
  pub successors : (j : ℕ) → successor (place x.segments j) j ≡ successor (place y.segments j) j
  pub ingresses : (j : ℕ) → ingress x j ≡ ingress y j
  pub egresses : (j : ℕ) → egress x j ≡ egress y j

-- equal path bytes are those of the same hops
abbrev pub PathsAreOne : Type 0
PathsAreOne = (x y : Route) → IsRoute x → IsRoute y → path_bytes x ≡ path_bytes y → SameHops x y

-- ---- places

-- how many hops stand before segment i
abbrev pub hops_before : List SegmentHead → ℕ → ℕ
hops_before segments i = hops_of (take i segments)

-- hop j is the index-th of its segment, and the hops of earlier segments stand before it
pub record IsPlaceOf (segments : List SegmentHead) (j : ℕ) (p : HopPlace) : Type 0 where
  pub segment_there : p.segment < length segments
  pub head_is : p.head ≡ slice_index_or segments p.segment no_segment
  pub inside : p.index < p.head.count
  pub from_start : hops_before segments p.segment + p.index ≡ j

-- each hop has its place, and each place of a segment is a hop's
pub record PlacesAreOne (segments : List SegmentHead) : Type 0 where
  pub placed : (j : ℕ) → j < hops_of segments → IsPlaceOf segments j (place segments j)
  pub filled : (i k : ℕ) → i < length segments → k < (slice_index_or segments i no_segment).count
      → place segments (hops_before segments i + k) ≡ record { segment = i; head = slice_index_or segments i no_segment; index = k }

-- hop j comes next after hop i in construction order
pub record Follows (segments : List SegmentHead) (i j : ℕ) : Type 0 where
  pub same_segment : (place segments i).segment ≡ (place segments j).segment
  pub same_head : (place segments i).head ≡ (place segments j).head
  pub positions : position (place segments j) ≡ position (place segments i) + 1
  pub next : successor (place segments i) i ≡ Some j

-- a hop that isn't the first of its segment follows the hop before it, or is followed by it
abbrev pub NeighboursFollow : Type 0
NeighboursFollow =
    (segments : List SegmentHead) (j : ℕ) → j < hops_of segments → is_first (place segments j) ≡ false
    → (0 < j) × MatchBool (place segments j).head.against (Follows segments j (j - 1)) (Follows segments (j - 1) j)

-- the hop of the same segment whose position is one greater comes next, and is a hop of the packet
abbrev pub SuccessorsFollow : Type 0
SuccessorsFollow =
    (segments : List SegmentHead) (j k : ℕ) → j < hops_of segments → successor (place segments j) j ≡ Some k
    → (k < hops_of segments) × Follows segments j k

-- where segments begin and end among the hops of a packet
pub record SegmentsJoin (segments : List SegmentHead) : Type 0 where
  -- behind the last hop of a segment stands the first of another, if any
  pub behind_last : (j : ℕ) → is_last (place segments j) ≡ true → is_first (place segments (j + 1)) ≡ true
  -- behind another hop stands one of its segment, which isn't the first
  pub behind_other : (j : ℕ) → j < hops_of segments → is_last (place segments j) ≡ false
      → (j + 1 < hops_of segments) × (is_first (place segments (j + 1)) ≡ false)
  -- the last hop of all is the last of its segment
  pub last_of_all : (j : ℕ) → j + 1 ≡ hops_of segments → is_last (place segments j) ≡ true
  -- the first hop of a segment isn't its last, since each has two hops at least
  pub first_not_last : All IsSegment segments → (j : ℕ) → j < hops_of segments → is_first (place segments j) ≡ true
      → is_last (place segments j) ≡ false
