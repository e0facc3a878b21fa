-- Private: serves proofs of this crate alone; no public contract cites it.
-- The parts of a decoded packet, each as it is read from bytes.
use Rattle.std.specs.Prelude.{ℕ, List, drop, map}
use Rattle.std.specs.List.{range_with_len}
use Rattle.std.specs.Int.{w64}
use Rattle.epic_num.specs.Levels.{version_of, level_of}
use Rattle.epic_layout.specs.declared.packet.PacketHop.{PacketHop}
use Rattle.epic_layout.specs.declared.packet.PacketSegment.{PacketSegment}
use Rattle.epic_layout.specs.declared.packet.Packet.{Packet}
use Rattle.epic_layout.specs.Pieces.{byte, number}
use Rattle.epic_layout.specs.Contents.{as_field}
use Rattle.epic_layout.specs.Layout.{segments_in, segment_at, hop_at, field_at, host_at, dest_field_in, header_len_in}
use Rattle.epic_layout.specs.Laws.{hops_before}
use Rattle.epic_layout.specs.declared.wire.TheConstants.{SEGMENTS_AT, CURRENT_AT, SRC_AS_AT, DST_AS_AT, SRC_HOST_AT, DST_HOST_AT, TS_AT}

unfoldable pub packet_hop_at : List ℕ → ℕ → PacketHop
packet_hop_at bytes j = record {
  exp = (hop_at bytes j).exp;
  inn = (hop_at bytes j).inn;
  out = (hop_at bytes j).out;
  link = (hop_at bytes j).link;
  field = as_field (field_at bytes j);
}

unfoldable pub packet_segment_at : List ℕ → ℕ → PacketSegment
packet_segment_at bytes i = record {
  against = (segment_at bytes i).against;
  ts_path = (segment_at bytes i).ts_path;
  hops = record { items = map (packet_hop_at bytes) (range_with_len (hops_before (segments_in bytes) i) (segment_at bytes i).count) };
}

unfoldable pub packet_segments_in : List ℕ → List PacketSegment
packet_segments_in bytes = map (packet_segment_at bytes) (range_with_len 0 (byte bytes SEGMENTS_AT))

unfoldable pub packet_in : List ℕ → Packet
packet_in bytes = record {
  version = version_of (byte bytes 0);
  level = level_of (byte bytes 0);
  current = byte bytes CURRENT_AT;
  src = host_at bytes SRC_AS_AT SRC_HOST_AT;
  dst = host_at bytes DST_AS_AT DST_HOST_AT;
  ts = number w64 bytes TS_AT;
  segments = packet_segments_in bytes;
  dest_field = dest_field_in bytes;
  payload = drop (header_len_in bytes) bytes;
}
