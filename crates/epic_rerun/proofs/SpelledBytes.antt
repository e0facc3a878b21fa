-- The spelling of a packet whose parts are bytes is bytes.
use Rattle.std.proofs.Common.{◌≡◌, ℕ, ◌<◌, true, List, [], ◌∷◌, ◌++◌, length, zip, flat_map, arith}
use Rattle.std.specs.List.{All}
use Rattle.std.proofs.lemmas.Bool.{cond_both}
use Rattle.std.proofs.lemmas.List.Elements.{All-head, All-tail}
use Rattle.hex.specs.Hex.{IsBytes as AreBytes}
use Rattle.epic_num.specs.BigEndian.{u16_bytes, u32_bytes, u64_bytes}
use Rattle.epic_num.specs.Levels.{is_first_byte, is_tagged}
use Rattle.epic_num.proofs.LevelLaws.{at_first}
use Rattle.epic_layout.specs.declared.head.HopHead.{HopHead}
use Rattle.epic_layout.specs.Contents.{Contents, HoldsBytes, IsBytes, IsHop, IsPacket, IsSegment, header_len}
use Rattle.epic_layout.specs.Spelling.{dest_bytes, end_bytes, hop_bytes, hop_with_field, segment_bytes, size_bytes, spelling}
use Rattle.epic_reread.proofs.Bytes.{are_bytes, byte_onto, bytes_onto, high_bytes}
use Rattle.epic_reread.proofs.PacketBytes.{flat_is, hop_is, is_bytes, segment_is}

first_small : (first : ℕ) → is_first_byte first ≡ true → first < 256
first_small first is =
    at_first (λ b. b < 256) (omega arith) (omega arith) (omega arith) (omega arith) (omega arith) (omega arith) first is

none_are : AreBytes []
none_are i = omega arith

sizes_are : (p : Contents) → IsPacket p → AreBytes (size_bytes p)
unfolding size_bytes u16_bytes
sizes_are p is =
    let last = length p.route.segments ∷ p.current ∷ [] in
    let payload = u16_bytes (length p.payload) ++ last in
    let header = u16_bytes (header_len p) ++ payload in
    byte_onto p.first (0 ∷ header) (first_small p.first is.exists)
    (byte_onto 0 header (omega arith)
    (bytes_onto (u16_bytes (header_len p)) payload (high_bytes 2 (header_len p))
    (bytes_onto (u16_bytes (length p.payload)) last (high_bytes 2 (length p.payload))
    (byte_onto (length p.route.segments) (p.current ∷ []) (omega (arith, is.route.few_segments))
    (byte_onto p.current [] (omega (arith, is.current, is.route.few_hops)) none_are)))))

ends_are : (p : Contents) → AreBytes (end_bytes p)
unfolding end_bytes u32_bytes u64_bytes
ends_are p =
    let ts = u64_bytes p.ts in
    let dst_host = u32_bytes p.dst.host ++ ts in
    let src_host = u32_bytes p.src.host ++ dst_host in
    let dst_as = u64_bytes p.dst.asn.0 ++ src_host in
    bytes_onto (u64_bytes p.src.asn.0) dst_as (high_bytes 8 p.src.asn.0)
    (bytes_onto (u64_bytes p.dst.asn.0) src_host (high_bytes 8 p.dst.asn.0)
    (bytes_onto (u32_bytes p.src.host) dst_host (high_bytes 4 p.src.host)
    (bytes_onto (u32_bytes p.dst.host) ts (high_bytes 4 p.dst.host) (high_bytes 8 p.ts))))

rows_are : (hops : List HopHead) (fields : List (List ℕ)) → All (λ h. IsHop h × IsBytes h.link) hops → All IsBytes fields
    → AreBytes (flat_map hop_with_field (zip hops fields))
unfolding hop_with_field
rows_are [] fields all are = none_are
rows_are (h ∷ hops) [] all are = none_are
rows_are (h ∷ hops) (v ∷ fields) all are =
    let rest = flat_map hop_with_field (zip hops fields) in
    bytes_onto (hop_bytes h ++ v) rest
    (bytes_onto (hop_bytes h) v (hop_is h (All-head (λ h. IsHop h × IsBytes h.link) h hops all)) (are_bytes v (All-head IsBytes v fields are)))
    (rows_are hops fields (All-tail (λ h. IsHop h × IsBytes h.link) h hops all) (All-tail IsBytes v fields are))

dest_are : (p : Contents) → IsBytes p.dest_field → AreBytes (dest_bytes p)
unfolding dest_bytes
dest_are p is = cond_both (is_tagged p.first) p.dest_field [] AreBytes (λ e. are_bytes p.dest_field is) (λ e. none_are)

pub spelling_is : (p : Contents) → IsPacket p → HoldsBytes p → IsBytes (spelling p)
unfolding spelling
spelling_is p is bytes =
    let payload = dest_bytes p ++ p.payload in
    let rows = flat_map hop_with_field (zip p.route.hops p.fields) ++ payload in
    let segments = flat_map segment_bytes p.route.segments ++ rows in
    let ends = end_bytes p ++ segments in
    is_bytes (size_bytes p ++ ends)
    (bytes_onto (size_bytes p) ends (sizes_are p is)
    (bytes_onto (end_bytes p) segments (ends_are p)
    (bytes_onto (flat_map segment_bytes p.route.segments) rows (flat_is IsSegment segment_bytes segment_is p.route.segments is.route.segments)
    (bytes_onto (flat_map hop_with_field (zip p.route.hops p.fields)) payload
    (rows_are p.route.hops p.fields (λ k d l. (is.route.hops k d l, bytes.links k d l)) bytes.field_bytes)
    (bytes_onto (dest_bytes p) p.payload (dest_are p bytes.dest_bytes) (are_bytes p.payload bytes.payload_bytes))))))
