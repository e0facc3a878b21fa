-- What bytes say as a packet, and the first fault of bytes that are none.
use Rattle.std.specs.Prelude.{ℕ, ◌+◌, ◌*◌, ◌==◌, nat_lt, Bool, not, ◌||◌, List, [], ◌∷◌, map, length, drop, replicate, if◌then◌else◌}
use Rattle.std.specs.Prelude.{Option, Result}
use Rattle.std.specs.List.{range_with_len, list_any}
use Rattle.std.specs.Int.{w16, w32, w64}
use Rattle.epic_num.specs.declared.name.HostId.{HostId}
use Rattle.epic_num.specs.declared.layout_error.LayoutError.{LayoutError}
use Rattle.epic_num.specs.declared.layout_error.LayoutError.TheVariants.{Short, Version, Flags, SegmentCount, Reserved, HopCount, HeaderLength, PayloadLength, CurrentHop}
use Rattle.epic_num.specs.Tables.{first_row, unless}
use Rattle.epic_num.specs.Levels.{width_of, is_first_byte, is_tagged}
use Rattle.epic_layout.specs.Pieces.{byte, piece, number}
use Rattle.epic_layout.specs.Route.{Route, hops_of}
use Rattle.epic_layout.specs.Contents.{Contents, segment_offset, row_len, dest_len, shape}
use Rattle.epic_layout.specs.declared.shape.Shape.{Shape}
use Rattle.epic_layout.specs.declared.wire.TheConstants.{FIXED_LEN, FLAGS_AT, HEADER_LEN_AT, PAYLOAD_LEN_AT, SEGMENTS_AT, CURRENT_AT, SRC_AS_AT, DST_AS_AT, SRC_HOST_AT, DST_HOST_AT, TS_AT, SEGMENT_COUNT_AT, SEGMENT_ZEROS_AT, SEGMENT_TS_AT, HOP_INN_AT, HOP_OUT_AT, HOP_LINK_AT, LINK_LEN, HOP_LEN, DEST_LEN, MAX_SEGMENTS, MIN_SEGMENT_HOPS, MAX_SEGMENT_HOPS, MAX_HOPS, MAX_PAYLOAD}
use Rattle.epic_layout.specs.declared.head.SegmentHead.{SegmentHead}
use Rattle.epic_layout.specs.declared.head.HopHead.{HopHead}

-- the header of segment i: direction, hop count, two zero bytes, timestamp
unfoldable pub segment_at : List ℕ → ℕ → SegmentHead
segment_at bytes i = record {
  against = byte bytes (segment_offset i) == 1;
  count = byte bytes (segment_offset i + SEGMENT_COUNT_AT);
  ts_path = number w32 bytes (segment_offset i + SEGMENT_TS_AT);
}

unfoldable pub segments_in : List ℕ → List SegmentHead
segments_in bytes = map (segment_at bytes) (range_with_len 0 (byte bytes SEGMENTS_AT))

abbrev pub hops_in : List ℕ → ℕ
hops_in bytes = hops_of (segments_in bytes)

-- how many bytes a hop takes
abbrev pub hop_len : List ℕ → ℕ
hop_len bytes = row_len (byte bytes 0)

-- where hop j begins
unfoldable pub hop_offset : List ℕ → ℕ → ℕ
hop_offset bytes j = segment_offset (byte bytes SEGMENTS_AT) + hop_len bytes * j

-- the hop that begins at a place: expiry, two interfaces, link tag
unfoldable pub hop_head_at : List ℕ → ℕ → HopHead
hop_head_at bytes at = record {
  exp = byte bytes at;
  inn = number w16 bytes (at + HOP_INN_AT);
  out = number w16 bytes (at + HOP_OUT_AT);
  link = piece bytes (at + HOP_LINK_AT) LINK_LEN;
}

abbrev pub hop_at : List ℕ → ℕ → HopHead
hop_at bytes j = hop_head_at bytes (hop_offset bytes j)

-- where the field of hop j begins
abbrev pub field_offset : List ℕ → ℕ → ℕ
field_offset bytes j = hop_offset bytes j + HOP_LEN

abbrev pub field_at : List ℕ → ℕ → List ℕ
field_at bytes j = piece bytes (field_offset bytes j) (width_of (byte bytes 0))

-- where the destination field begins, or the payload where there is none
abbrev pub dest_offset : List ℕ → ℕ
dest_offset bytes = hop_offset bytes (hops_in bytes)

-- how many bytes stand before the payload
unfoldable pub header_len_in : List ℕ → ℕ
header_len_in bytes = dest_offset bytes + dest_len (byte bytes 0)

unfoldable pub dest_field_in : List ℕ → List ℕ
dest_field_in bytes =
    if is_tagged (byte bytes 0) then piece bytes (dest_offset bytes) DEST_LEN else replicate DEST_LEN 0

-- the AS and the host's number stand apart from one another
abbrev pub host_at : List ℕ → ℕ → ℕ → HostId
host_at bytes asn host = record { asn = record { 0 = number w64 bytes asn }; host = number w32 bytes host }

unfoldable pub route_in : List ℕ → Route
route_in bytes = record {
  segments = segments_in bytes;
  hops = map (hop_at bytes) (range_with_len 0 (hops_in bytes));
}

-- What bytes say, each part read from its place. It is the packet that they spell where they have no fault.
unfoldable pub parse : List ℕ → Contents
parse bytes = record {
  first = byte bytes 0;
  current = byte bytes CURRENT_AT;
  src = host_at bytes SRC_AS_AT SRC_HOST_AT;
  dst = host_at bytes DST_AS_AT DST_HOST_AT;
  ts = number w64 bytes TS_AT;
  route = route_in bytes;
  fields = map (field_at bytes) (range_with_len 0 (hops_in bytes));
  dest_field = dest_field_in bytes;
  payload = drop (header_len_in bytes) bytes;
}

-- the direction of segment i is neither 0 nor 1, or one of its reserved bytes isn't 0
abbrev pub is_reserved : List ℕ → ℕ → Bool
is_reserved bytes i =
    nat_lt 1 (byte bytes (segment_offset i))
    || (not (byte bytes (segment_offset i + SEGMENT_ZEROS_AT) == 0) || not (byte bytes (segment_offset i + (SEGMENT_ZEROS_AT + 1)) == 0))

-- segment i has too few or too many hops
abbrev pub is_miscounted : List ℕ → ℕ → Bool
is_miscounted bytes i =
    nat_lt (byte bytes (segment_offset i + SEGMENT_COUNT_AT)) MIN_SEGMENT_HOPS || nat_lt MAX_SEGMENT_HOPS (byte bytes (segment_offset i + SEGMENT_COUNT_AT))

-- a segment of the packet meets the test
unfoldable pub any_segment : (ℕ → Bool) → List ℕ → Bool
any_segment test bytes = list_any test (range_with_len 0 (byte bytes SEGMENTS_AT))

-- The faults in their order, each with the test for it, where the first bytes that exist are those that meet `firsts`.
unfoldable pub tests : (ℕ → Bool) → List ℕ → List (Bool × LayoutError)
tests firsts bytes =
    (nat_lt (length bytes) FIXED_LEN, Short)
    ∷ (not (firsts (byte bytes 0)), Version)
    ∷ (not (byte bytes FLAGS_AT == 0), Flags)
    ∷ (nat_lt (byte bytes SEGMENTS_AT) 1 || nat_lt MAX_SEGMENTS (byte bytes SEGMENTS_AT), SegmentCount)
    ∷ (nat_lt (length bytes) (segment_offset (byte bytes SEGMENTS_AT)), Short)
    ∷ (any_segment (is_reserved bytes) bytes, Reserved)
    ∷ (any_segment (is_miscounted bytes) bytes || nat_lt MAX_HOPS (hops_in bytes), HopCount)
    ∷ (not (number w16 bytes HEADER_LEN_AT == header_len_in bytes) || nat_lt (length bytes) (header_len_in bytes), HeaderLength)
    ∷ (nat_lt MAX_PAYLOAD (number w16 bytes PAYLOAD_LEN_AT) || not (header_len_in bytes + number w16 bytes PAYLOAD_LEN_AT == length bytes), PayloadLength)
    ∷ (nat_lt (hops_in bytes) (byte bytes CURRENT_AT), CurrentHop)
    ∷ []

-- the first fault of bytes as a packet
abbrev pub fault : (ℕ → Bool) → List ℕ → Option LayoutError
fault firsts bytes = first_row (tests firsts bytes)

-- What the check of bytes answers: the shape of the packet that they are, or their first fault.
abbrev pub checked : List ℕ → Result Shape LayoutError
checked bytes = unless (fault is_first_byte bytes) (shape (parse bytes))
