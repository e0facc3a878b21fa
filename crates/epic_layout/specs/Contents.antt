-- What a packet says, apart from how its bytes spell it.
use Rattle.std.specs.Prelude.{◌≡◌, ℕ, ◌+◌, ◌-◌, ◌*◌, ◌++◌, ◌<◌, ◌≤◌, ◌^◌, true, false, List, [], length, take, replicate, slice_index_or, slice_set, if◌then◌else◌}
use Rattle.std.specs.List.{All}
use Rattle.epic_num.specs.declared.hop.Field.{Field}
use Rattle.epic_num.specs.declared.name.HostId.{HostId}
use Rattle.epic_num.specs.Levels.{version_of, width_of, level_of, is_first_byte, is_tagged}
use Rattle.epic_num.specs.Messages.{IsHost}
use Rattle.epic_layout.specs.Route.{Route, hops_of}
use Rattle.epic_layout.specs.declared.head.SegmentHead.{SegmentHead}
use Rattle.epic_layout.specs.declared.head.HopHead.{HopHead}
use Rattle.epic_layout.specs.declared.shape.Shape.{Shape}
use Rattle.epic_layout.specs.declared.wire.TheConstants.{FIXED_LEN, SEGMENT_LEN, HOP_LEN, LINK_LEN, DEST_LEN, MAX_SEGMENTS, MIN_SEGMENT_HOPS, MAX_SEGMENT_HOPS, MAX_HOPS, MAX_PAYLOAD}

-- The version, the level and the width of a field are functions of the first byte. A field is a list of bytes, one
-- for each hop in travel order. The destination field of levels 0 and 1 is 16 zeros.
pub record Contents : Type 0 where
  pub first : ℕ
  pub current : ℕ
  pub src : HostId
  pub dst : HostId
  pub ts : ℕ
  pub route : Route
  pub fields : List (List ℕ)
  pub dest_field : List ℕ
  pub payload : List ℕ

-- the number of hops
abbrev pub hop_count : Contents → ℕ
hop_count p = length p.route.hops

-- the field of hop j
unfoldable pub field : Contents → ℕ → List ℕ
field p j = slice_index_or p.fields j []

-- a field as a value of six bytes, which are 0 past its width
unfoldable pub as_field : List ℕ → Field
as_field v = record { bytes = v ++ replicate (6 - length v) 0; width = length v }

-- the bytes of such a value that count
abbrev pub field_bytes : Field → List ℕ
field_bytes f = take f.width f.bytes

-- ---- sizes

-- where the header of segment i begins, and where the hops begin after i segments
abbrev pub segment_offset : ℕ → ℕ
segment_offset i = FIXED_LEN + SEGMENT_LEN * i

-- how many bytes a hop takes with its field
abbrev pub row_len : ℕ → ℕ
row_len first = HOP_LEN + width_of first

-- how many bytes the destination field takes
unfoldable pub dest_len : ℕ → ℕ
dest_len first = if is_tagged first then DEST_LEN else 0

-- How many bytes stand before the payload of a packet with this first byte and these numbers of segments and hops.
abbrev pub header_len_of : ℕ → ℕ → ℕ → ℕ
header_len_of first segments hops = segment_offset segments + row_len first * hops + dest_len first

-- how many bytes stand before the payload
unfoldable pub header_len : Contents → ℕ
header_len p = header_len_of p.first (length p.route.segments) (hop_count p)

unfoldable pub shape : Contents → Shape
shape p = record {
  version = version_of p.first;
  level = level_of p.first;
  segments = length p.route.segments;
  hops = hop_count p;
  header = header_len p;
  payload = length p.payload;
}

-- ---- limits

abbrev pub IsBytes : List ℕ → Type 0
IsBytes bytes = All (λ b. b < 256) bytes

-- a segment has 2 to 16 hops
pub record IsSegment (s : SegmentHead) : Type 0 where
  pub least : MIN_SEGMENT_HOPS ≤ s.count
  pub most : s.count ≤ MAX_SEGMENT_HOPS
  pub ts_path : s.ts_path < 2 ^ 32

pub record IsHop (h : HopHead) : Type 0 where
  pub exp : h.exp < 2 ^ 8
  pub inn : h.inn < 2 ^ 16
  pub out : h.out < 2 ^ 16
  pub link : length h.link ≡ LINK_LEN

-- one to three segments, each with 2 to 16 hops, and 32 hops in all at most
pub record AreSegments (segments : List SegmentHead) : Type 0 where
  pub some_segment : 1 ≤ length segments
  pub few_segments : length segments ≤ MAX_SEGMENTS
  pub least : All (λ s. MIN_SEGMENT_HOPS ≤ s.count) segments
  pub most : All (λ s. s.count ≤ MAX_SEGMENT_HOPS) segments
  pub few_hops : hops_of segments ≤ MAX_HOPS

-- one to three segments, whose hops are 32 at most
pub record IsRoute (r : Route) : Type 0 where
  pub some_segment : 1 ≤ length r.segments
  pub few_segments : length r.segments ≤ MAX_SEGMENTS
  pub segments : All IsSegment r.segments
  pub counted : hops_of r.segments ≡ length r.hops
  pub few_hops : length r.hops ≤ MAX_HOPS
  pub hops : All IsHop r.hops

-- each part is within the limits of the layout
pub record IsPacket (p : Contents) : Type 0 where
  pub exists : is_first_byte p.first ≡ true
  pub src : IsHost p.src
  pub dst : IsHost p.dst
  pub ts : p.ts < 2 ^ 64
  pub route : IsRoute p.route
  pub current : p.current ≤ hop_count p
  pub counted : length p.fields ≡ hop_count p
  pub fields : All (λ v. length v ≡ width_of p.first) p.fields
  pub dest_length : length p.dest_field ≡ DEST_LEN
  pub untagged : is_tagged p.first ≡ false → p.dest_field ≡ replicate DEST_LEN 0
  pub payload : length p.payload ≤ MAX_PAYLOAD

-- the parts that are lists of bytes hold bytes
pub record HoldsBytes (p : Contents) : Type 0 where
  pub links : All (λ h. IsBytes h.link) p.route.hops
  pub field_bytes : All IsBytes p.fields
  pub dest_bytes : IsBytes p.dest_field
  pub payload_bytes : IsBytes p.payload

-- ---- changes

-- with another field of hop j
unfoldable pub with_field : Contents → ℕ → List ℕ → Contents
with_field p j v = record p { fields = slice_set p.fields j v }

-- with another destination field
unfoldable pub with_dest_field : Contents → List ℕ → Contents
with_dest_field p v = record p { dest_field = v }

-- n hops on
unfoldable pub advanced : Contents → ℕ → Contents
advanced p n = record p { current = p.current + n }

-- ---- a packet without fields

-- a packet at its first hop, with zeros in the place of each field and of the destination field
unfoldable pub unfilled : ℕ → HostId → HostId → ℕ → Route → List ℕ → Contents
unfilled first src dst ts route payload = record {
  first = first;
  current = 0;
  src = src;
  dst = dst;
  ts = ts;
  route = route;
  fields = replicate (length route.hops) (replicate (width_of first) 0);
  dest_field = replicate DEST_LEN 0;
  payload = payload;
}
