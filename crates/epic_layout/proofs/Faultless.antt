-- The spelling of a packet has no fault.
use Rattle.std.proofs.Common.{◌≡◌, ℕ, ◌+◌, ◌*◌, ◌^◌, ◌<◌, ◌≤◌, Bool, false, ◌++◌, length, get_or, refl, ap, sym, ◌∙◌, arith, if◌then◌else◌}
use Rattle.std.specs.List.{flat_map, list_any, range_with_len, zip}
use Rattle.std.specs.Int.{w16}
use Rattle.std.proofs.Math.Nat.{mul-le-mul_left}
use Rattle.std.proofs.lemmas.Bool.{le-ltb, eq-eqb, not_from_true, or_from, cond_both}
use Rattle.std.proofs.lemmas.List.{length-append}
use Rattle.std.proofs.lemmas.List.Folds.{list_any_none}
use Rattle.std.proofs.lemmas.Nat.{from_be_bytes-to_be_bytes_2}
use Rattle.epic_num.specs.Levels.{width_of, is_first_byte}
use Rattle.epic_num.specs.BigEndian.{u16_bytes, u32_bytes, u64_bytes}
use Rattle.epic_layout.specs.Pieces.{byte, number}
use Rattle.epic_layout.specs.Route.{no_segment}
use Rattle.epic_layout.specs.Contents.{Contents, IsPacket, hop_count, header_len, segment_offset}
use Rattle.epic_layout.specs.Layout.{header_len_in, any_segment, is_reserved, is_miscounted}
use Rattle.epic_layout.specs.Sound.{IsSound}
use Rattle.epic_layout.specs.Spelling.{segment_bytes, hop_with_field, size_bytes, end_bytes, dest_bytes, spelling, Spells}
use Rattle.epic_layout.proofs.Shapes.{header_len_parse}
use Rattle.epic_layout.proofs.Soundness.{faultless}
use Rattle.epic_layout.proofs.Offsets.{width_most, dest_len_most}
use Rattle.epic_layout.proofs.Limits.{All-range}
use Rattle.epic_layout.proofs.ReadBack.{segment_cells, count_spelled, first_spelled, hops_spelled, rows_wide, segments_wide, length-rows, length-rows_of, length-dest_bytes, numbers_read, parse-spelling}

length-size_bytes : (p : Contents) → length (size_bytes p) ≡ 8
unfolding size_bytes u16_bytes
length-size_bytes p = refl

length-end_bytes : (p : Contents) → length (end_bytes p) ≡ 32
unfolding end_bytes u32_bytes u64_bytes
length-end_bytes p = refl

pub length-spelling : (p : Contents) → IsPacket p → length (spelling p) ≡ header_len p + length p.payload
unfolding spelling header_len
length-spelling p ip =
    let segments = flat_map segment_bytes p.route.segments in
    let rows = flat_map hop_with_field (zip p.route.hops p.fields) in
    let dest = dest_bytes p in
    let w = 13 + width_of p.first in
    let rows_size : length rows ≡ w * hop_count p = length-rows hop_with_field w (zip p.route.hops p.fields) (rows_wide p ip) ∙ ap (λ n. w * n) (length-rows_of p ip) in
    length-append (size_bytes p) (end_bytes p ++ (segments ++ (rows ++ (dest ++ p.payload))))
    ∙ omega (
      arith,
      length-append (end_bytes p) (segments ++ (rows ++ (dest ++ p.payload))),
      length-append segments (rows ++ (dest ++ p.payload)),
      length-append rows (dest ++ p.payload),
      length-append dest p.payload,
      length-size_bytes p,
      length-end_bytes p,
      length-rows segment_bytes 8 p.route.segments (segments_wide p),
      rows_size,
      length-dest_bytes p ip,
    )

-- a header has at most 704 bytes
pub header_len_most : (p : Contents) → IsPacket p → header_len p ≤ 704
unfolding header_len
header_len_most p ip = omega (arith, ip.route.few_segments, mul-le-mul_left (13 + width_of p.first) ip.route.few_hops, width_most p.first, dest_len_most p.first)

least_header : (p : Contents) → segment_offset (length p.route.segments) ≤ header_len p
unfolding header_len
least_header p = omega arith

direction_most : (a : Bool) → (if a then 1 else 0) ≤ 1
direction_most a = cond_both a 1 0 (λ n. n ≤ 1) (λ _. omega arith) (λ _. omega arith)

sizes_read : (p : Contents) → (byte (spelling p) 1 ≡ 0) × (header_len p < 2 ^ 16 → number w16 (spelling p) 2 ≡ header_len p) × (length p.payload < 2 ^ 16 → number w16 (spelling p) 4 ≡ length p.payload)
unfolding spelling size_bytes end_bytes u16_bytes u32_bytes u64_bytes number
sizes_read p = (refl, (λ h. from_be_bytes-to_be_bytes_2 (header_len p) h), (λ h. from_be_bytes-to_be_bytes_2 (length p.payload) h))

no_segment_of : (p : Contents) (test : ℕ → Bool) → ((i : ℕ) → i < length p.route.segments → test i ≡ false) → any_segment test (spelling p) ≡ false
unfolding any_segment
no_segment_of p test none =
    ap (λ n. list_any test (range_with_len 0 n)) (count_spelled p)
    ∙ list_any_none test (range_with_len 0 (length p.route.segments)) (All-range (λ i. test i ≡ false) (length p.route.segments) none)

pub IsSound-spelling : (p : Contents) → IsPacket p → IsSound (spelling p)
IsSound-spelling p ip =
    let b = spelling p in
    let r = ip.route in
    let count = count_spelled p in
    let hops = hops_spelled p ip in
    let size = length-spelling p ip in
    let most = header_len_most p ip in
    let sizes = sizes_read p in
    let header : header_len_in b ≡ header_len p = sym (header_len_parse b) ∙ ap header_len (parse-spelling p ip) in
    let header_number = sizes.1 (omega (arith, most)) in
    let payload_number = sizes.2 (omega (arith, ip.payload)) in
    record {
      first = ap is_first_byte (first_spelled p) ∙ ip.exists;
      flags = sizes.0;
      some_segment = omega (arith, count, r.some_segment);
      few_segments = omega (arith, count, r.few_segments);
      segments_there = omega (arith, count, size, least_header p);
      reserved = no_segment_of p (is_reserved b) (λ i h. let cells = segment_cells p i h in
          let at = segment_offset i in
          or_from _ _ (le-ltb 1 (byte b at) (omega (arith, cells.0, direction_most (get_or p.route.segments i no_segment).against)))
          (or_from _ _ (not_from_true _ (eq-eqb (byte b (at + 2)) 0 cells.2)) (not_from_true _ (eq-eqb (byte b (at + 3)) 0 cells.3))));
      counted = no_segment_of p (is_miscounted b) (λ i h. let cells = segment_cells p i h in
          let n = byte b (segment_offset i + 1) in
          or_from _ _ (le-ltb n 2 (omega (arith, cells.1, (r.segments i no_segment h).least))) (le-ltb 16 n (omega (arith, cells.1, (r.segments i no_segment h).most))));
      few_hops = omega (arith, hops, r.few_hops);
      header = header_number ∙ sym header;
      header_there = omega (arith, header, size);
      payload = omega (arith, payload_number, ip.payload);
      whole = omega (arith, header, payload_number, size);
      current = omega (arith, hops, (numbers_read p ip).0, ip.current);
    }

-- a packet has a spelling
pub Spells-spelling : (p : Contents) → IsPacket p → Spells (spelling p) p
Spells-spelling p ip = record { faultless = faultless (spelling p) (IsSound-spelling p ip); says = parse-spelling p ip }
