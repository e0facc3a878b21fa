-- What a decoded packet says, and when it is within the limits of the layout.
use Rattle.std.specs.Prelude.{◌≡◌, ℕ, Bool, ◌==◌, ◌&&◌, ◌||◌, nat_le, IsTrue, List, ◌++◌, length, drop, map, Result, Ok, Err}
use Rattle.std.specs.List.{All, list_all, flat_map}
use Rattle.epic_num.specs.declared.hop.Field.{Field}
use Rattle.epic_num.specs.declared.hop.Level.{Level}
use Rattle.epic_num.specs.declared.layout_error.LayoutError.{LayoutError}
use Rattle.epic_num.specs.Levels.{first_byte, width_of, is_tagged}
use Rattle.epic_layout.specs.declared.head.SegmentHead.{SegmentHead}
use Rattle.epic_layout.specs.declared.head.HopHead.{HopHead}
use Rattle.epic_layout.specs.declared.packet.PacketHop.{PacketHop}
use Rattle.epic_layout.specs.declared.packet.PacketSegment.{PacketSegment}
use Rattle.epic_layout.specs.declared.packet.Packet.{Packet}
use Rattle.epic_layout.specs.declared.decoding.DecodeError.{DecodeError}
use Rattle.epic_layout.specs.declared.decoding.DecodeError.TheVariants.{Layout, OutOfMemory}
use Rattle.epic_layout.specs.Contents.{Contents, IsHop, field_bytes}
use Rattle.epic_layout.specs.Spelling.{hop_bytes}
use Rattle.epic_layout.specs.declared.wire.TheConstants.{MAX_SEGMENTS, MIN_SEGMENT_HOPS, MAX_SEGMENT_HOPS, MAX_HOPS, MAX_PAYLOAD}

abbrev pub segment_head_of : PacketSegment → SegmentHead
segment_head_of s = record { against = s.against; count = length s.hops.items; ts_path = s.ts_path }

abbrev pub hop_head_of : PacketHop → HopHead
hop_head_of h = record { exp = h.exp; inn = h.inn; out = h.out; link = h.link }

-- a hop with its field, as it is spelled
abbrev pub row_of : PacketHop → List ℕ
row_of h = hop_bytes (hop_head_of h) ++ field_bytes h.field

-- the parts of a hop and of its field fit their types
pub record FitsRow (h : PacketHop) : Type 0 where
  pub head : IsHop (hop_head_of h)
  pub field : length (field_bytes h.field) ≡ h.field.width

-- the hops of all segments, in travel order
unfoldable pub all_hops : List PacketSegment → List PacketHop
all_hops segments = flat_map (λ s. s.hops.items) segments

unfoldable pub contents_of : Packet → Contents
contents_of p = record {
  first = first_byte p.version p.level;
  current = p.current;
  src = p.src;
  dst = p.dst;
  ts = p.ts;
  route = record { segments = map segment_head_of p.segments; hops = map hop_head_of (all_hops p.segments) };
  fields = map (λ h. field_bytes h.field) (all_hops p.segments);
  dest_field = p.dest_field;
  payload = p.payload;
}

-- ---- limits

-- version 1 has all levels, version 2 has levels 2 and 3
unfoldable pub is_version : ℕ → Level → Bool
is_version version level = version == 1 || (version == 2 && is_tagged (first_byte version level))

-- a segment has 2 to 16 hops
unfoldable pub is_segment : PacketSegment → Bool
is_segment s = nat_le MIN_SEGMENT_HOPS (length s.hops.items) && nat_le (length s.hops.items) MAX_SEGMENT_HOPS

-- one to three segments, of 32 hops at most
unfoldable pub are_segments : List PacketSegment → Bool
are_segments segments =
    (nat_le 1 (length segments) && nat_le (length segments) MAX_SEGMENTS)
    && (list_all is_segment segments && nat_le (length (all_hops segments)) MAX_HOPS)

abbrev pub are_zeros : List ℕ → Bool
are_zeros bytes = list_all (λ b. b == 0) bytes

-- the field has the width, and is 0 past it
unfoldable pub is_field : ℕ → Field → Bool
is_field width f = f.width == width && are_zeros (drop width f.bytes)

unfoldable pub are_fields : ℕ → List PacketHop → Bool
are_fields width hops = list_all (λ h. is_field width h.field) hops

unfoldable pub is_valid : Packet → Bool
is_valid p =
    is_version p.version p.level
    && (are_segments p.segments
    && (are_fields (width_of (first_byte p.version p.level)) (all_hops p.segments)
    && (nat_le p.current (length (all_hops p.segments))
    && ((is_tagged (first_byte p.version p.level) || are_zeros p.dest_field) && nat_le (length p.payload) MAX_PAYLOAD))))

-- an answer of decoding: the packet within the limits that says this, or the fault, or want of memory
abbrev pub Decodes : Result Packet DecodeError → Result Contents LayoutError → Type 0
Decodes (Ok p) (Ok c) = IsTrue (is_valid p) × (contents_of p ≡ c)
Decodes (Ok p) (Err f) = ⊥
Decodes (Err (Layout e)) (Ok c) = ⊥
Decodes (Err (Layout e)) (Err f) = e ≡ f
Decodes (Err OutOfMemory) r = Unit {0}

-- the arrays of the hops' fields have their lengths
abbrev pub HasArrays : Packet → Type 0
HasArrays p = All (λ h. length h.field.bytes ≡ 6) (all_hops p.segments)

-- packets within the limits that say the same are the same, so that decoding gives back what was encoded
abbrev pub ValidPacketsAreOne : Type 0
ValidPacketsAreOne =
    (p q : Packet) → IsTrue (is_valid p) → IsTrue (is_valid q) → HasArrays p → HasArrays q → contents_of p ≡ contents_of q → p ≡ q
