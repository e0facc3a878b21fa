-- What the spelling of a packet says is the packet.
use Rattle.std.proofs.Common.{◌≡◌, ℕ, zero, suc, ◌+◌, ◌*◌, ◌<◌, Bool, true, false, List, [], ◌∷◌, ◌++◌, length, take, drop, get_or, map, replicate, refl, ap, sym, ◌∙◌, arith, append_assoc, if◌then◌else◌, ⊎_elim}
use Rattle.std.specs.Prelude.{◌==◌}
use Rattle.std.specs.List.{All, flat_map, range_with_len, zip}
use Rattle.std.specs.Int.{w16, w32, w64, from_be_bytes}
use Rattle.std.proofs.lemmas.Bool.{cond-true, cond-false, cases_Bool}
use Rattle.std.proofs.lemmas.List.{drop-drop, drop_at, take_at, get_or-drop, length-append}
use Rattle.std.proofs.lemmas.List.Elements.{All-head, All-tail}
use Rattle.std.proofs.lemmas.List.FromFn.{fill_by_all}
use Rattle.std.proofs.lemmas.Nat.{from_be_bytes-to_be_bytes_2, from_be_bytes-to_be_bytes_4, from_be_bytes-to_be_bytes_8}
use Rattle.std.proofs.lemmas.Slice.Zip.{length-zip, get_or-zip}
use Rattle.epic_num.specs.Levels.{width_of, is_tagged}
use Rattle.epic_num.specs.BigEndian.{u16_bytes, u32_bytes, u64_bytes}
use Rattle.epic_layout.specs.declared.head.HopHead.{HopHead}
use Rattle.epic_layout.specs.Pieces.{byte, piece, number}
use Rattle.epic_layout.specs.Route.{hops_of, no_segment, no_hop}
use Rattle.epic_layout.specs.Contents.{Contents, IsHop, IsPacket, hop_count, segment_offset, dest_len}
use Rattle.epic_layout.specs.Layout.{parse, route_in, segments_in, segment_at, hops_in, hop_offset, hop_head_at, hop_at, field_at, dest_offset, dest_field_in, header_len_in, host_at}
use Rattle.epic_layout.specs.Spelling.{segment_bytes, hop_bytes, hop_with_field, size_bytes, end_bytes, dest_bytes, spelling}
use Rattle.epic_layout.proofs.Codes.{length-segment_bytes, length-hop_bytes}

-- a byte, and a piece, at a place whose rest is known
byte_from : (b xs : List ℕ) (at k : ℕ) → drop at b ≡ xs → byte b (at + k) ≡ byte xs k
byte_from b xs at k e = sym (get_or-drop at b k 0) ∙ ap (λ ys. byte ys k) e

piece_from : (b xs : List ℕ) (at k n : ℕ) → drop at b ≡ xs → piece b (at + k) n ≡ piece xs k n
piece_from b xs at k n e = ap (take n) (sym (drop-drop k at b) ∙ ap (drop k) e)

-- rows of one width before a tail: the i-th stands at i widths
row_at : {X : Type 0} (f : X → List ℕ) (w : ℕ) (d : X) (xs : List X) (tail : List ℕ) (i : ℕ) → All (λ x. length (f x) ≡ w) xs → i < length xs
    → drop (w * i) (flat_map f xs ++ tail) ≡ f (get_or xs i d) ++ (flat_map f (drop (suc i) xs) ++ tail)
row_at {X} f w d [] tail i p h = absurd (omega arith)
row_at {X} f w d (x ∷ xs) tail zero p h =
    let none : w * 0 ≡ 0 = omega arith in
    ap (λ n. drop n (flat_map f (x ∷ xs) ++ tail)) none ∙ append_assoc (f x) (flat_map f xs) tail
row_at {X} f w d (x ∷ xs) tail (suc i) p h =
    let Fits : X → Type 0 = λ y. length (f y) ≡ w in
    let split : w * suc i ≡ w + w * i = omega arith in
    ap (λ n. drop n (flat_map f (x ∷ xs) ++ tail)) split
    ∙ ap (drop (w + w * i)) (append_assoc (f x) (flat_map f xs) tail)
    ∙ sym (drop-drop (w * i) w (f x ++ (flat_map f xs ++ tail)))
    ∙ ap (drop (w * i)) (drop_at (f x) (flat_map f xs ++ tail) w (All-head Fits x xs p))
    ∙ row_at f w d xs tail i (All-tail Fits x xs p) (omega arith)

-- and the tail stands after all of them
pub length-rows : {X : Type 0} (f : X → List ℕ) (w : ℕ) (xs : List X) → All (λ x. length (f x) ≡ w) xs → length (flat_map f xs) ≡ w * length xs
length-rows {X} f w [] p = let none : 0 ≡ w * 0 = omega arith in none
length-rows {X} f w (x ∷ xs) p =
    let Fits : X → Type 0 = λ y. length (f y) ≡ w in
    length-append (f x) (flat_map f xs) ∙ omega (arith, All-head Fits x xs p, length-rows f w xs (All-tail Fits x xs p))

-- ---- the parts of a spelling

rows_of : Contents → List ℕ
rows_of p = flat_map hop_with_field (zip p.route.hops p.fields)

-- what follows the fixed header, the segments' headers, the hops
after_fixed : (p : Contents) → drop 40 (spelling p) ≡ flat_map segment_bytes p.route.segments ++ (rows_of p ++ (dest_bytes p ++ p.payload))
unfolding spelling size_bytes end_bytes u16_bytes u32_bytes u64_bytes rows_of
after_fixed p = refl

pub segments_wide : (p : Contents) → All (λ s. length (segment_bytes s) ≡ 8) p.route.segments
segments_wide p k d h = length-segment_bytes (get_or p.route.segments k d)

after_segments : (p : Contents) → drop (segment_offset (length p.route.segments)) (spelling p) ≡ rows_of p ++ (dest_bytes p ++ p.payload)
after_segments p =
    let n = length p.route.segments in
    sym (drop-drop (8 * n) 40 (spelling p)) ∙ ap (drop (8 * n)) (after_fixed p)
    ∙ drop_at (flat_map segment_bytes p.route.segments) (rows_of p ++ (dest_bytes p ++ p.payload)) (8 * n) (length-rows segment_bytes 8 p.route.segments (segments_wide p))

pub count_spelled : (p : Contents) → byte (spelling p) 6 ≡ length p.route.segments
unfolding spelling size_bytes u16_bytes
count_spelled p = refl

pub first_spelled : (p : Contents) → byte (spelling p) 0 ≡ p.first
unfolding spelling size_bytes
first_spelled p = refl

direction_test : (a : Bool) → ((if a then 1 else 0) == 1) ≡ a
direction_test true = refl
direction_test false = refl

-- what follows the segment's first byte begins with its header
after_segment : (p : Contents) (i : ℕ) → i < length p.route.segments
    → drop (segment_offset i) (spelling p) ≡ segment_bytes (get_or p.route.segments i no_segment) ++ (flat_map segment_bytes (drop (suc i) p.route.segments) ++ (rows_of p ++ (dest_bytes p ++ p.payload)))
after_segment p i h =
    sym (drop-drop (8 * i) 40 (spelling p)) ∙ ap (drop (8 * i)) (after_fixed p)
    ∙ row_at segment_bytes 8 no_segment p.route.segments (rows_of p ++ (dest_bytes p ++ p.payload)) i (segments_wide p) h

-- the four cells before the timestamp
pub segment_cells : (p : Contents) (i : ℕ) → i < length p.route.segments
    → (byte (spelling p) (segment_offset i) ≡ (if (get_or p.route.segments i no_segment).against then 1 else 0))
    × (byte (spelling p) (segment_offset i + 1) ≡ (get_or p.route.segments i no_segment).count)
    × (byte (spelling p) (segment_offset i + 2) ≡ 0)
    × (byte (spelling p) (segment_offset i + 3) ≡ 0)
unfolding segment_bytes
segment_cells p i h =
    let b = spelling p in
    let at = segment_offset i in
    let here = after_segment p i h in
    let start : at + 0 ≡ at = omega arith in
    (ap (byte b) (sym start) ∙ byte_from b _ at 0 here, byte_from b _ at 1 here, byte_from b _ at 2 here, byte_from b _ at 3 here)

segment_spelled : (p : Contents) (i : ℕ) → IsPacket p → i < length p.route.segments → segment_at (spelling p) i ≡ get_or p.route.segments i no_segment
unfolding segment_at segment_bytes number u32_bytes
segment_spelled p i ip h =
    let b = spelling p in
    let s = get_or p.route.segments i no_segment in
    let at = segment_offset i in
    let cells = segment_cells p i h in
    let ts_path = ap (from_be_bytes w32) (piece_from b _ at 4 4 (after_segment p i h)) ∙ from_be_bytes-to_be_bytes_4 s.ts_path (ip.route.segments i no_segment h).ts_path in
    let against : (byte b at == 1) ≡ s.against = ap (λ n. n == 1) cells.0 ∙ direction_test s.against in
    λ k. record { against = against k; count = cells.1 k; ts_path = ts_path k }

segments_spelled : (p : Contents) → IsPacket p → segments_in (spelling p) ≡ p.route.segments
unfolding segments_in
segments_spelled p ip =
    ap (λ n. map (segment_at (spelling p)) (range_with_len 0 n)) (count_spelled p)
    ∙ sym (fill_by_all (segment_at (spelling p)) p.route.segments (length p.route.segments) no_segment refl (λ i h. sym (segment_spelled p i ip h)))

pub hops_spelled : (p : Contents) → IsPacket p → hops_in (spelling p) ≡ hop_count p
hops_spelled p ip = ap hops_of (segments_spelled p ip) ∙ ip.route.counted

-- ---- the hops and their fields

pub length-rows_of : (p : Contents) → IsPacket p → length (zip p.route.hops p.fields) ≡ hop_count p
length-rows_of p ip = length-zip p.route.hops p.fields ∙ omega (arith, ip.counted)

pub rows_wide : (p : Contents) → IsPacket p → All (λ h. length (hop_with_field h) ≡ 13 + width_of p.first) (zip p.route.hops p.fields)
unfolding hop_with_field
rows_wide p ip k d h =
    let within : k < hop_count p = omega (arith, length-rows_of p ip, h) in
    let pair = get_or-zip p.route.hops p.fields k d within (omega (arith, ip.counted, within)) in
    let head = length-hop_bytes (get_or p.route.hops k d.0) (ip.route.hops k d.0 within) in
    let field = ip.fields k d.1 (omega (arith, ip.counted, within)) in
    ap (λ (r : HopHead × List ℕ). length (hop_bytes r.0 ++ r.1)) pair
    ∙ length-append (hop_bytes (get_or p.route.hops k d.0)) (get_or p.fields k d.1)
    ∙ (λ i. head i + field i)

hop_offset_spelled : (p : Contents) (j : ℕ) → hop_offset (spelling p) j ≡ segment_offset (length p.route.segments) + (13 + width_of p.first) * j
unfolding hop_offset
hop_offset_spelled p j = λ i. segment_offset (count_spelled p i) + (13 + width_of (first_spelled p i)) * j

pair_at : (p : Contents) (j : ℕ) → IsPacket p → j < hop_count p → get_or (zip p.route.hops p.fields) j (no_hop, []) ≡ (get_or p.route.hops j no_hop, get_or p.fields j [])
pair_at p j ip h = get_or-zip p.route.hops p.fields j (no_hop, []) h (omega (arith, ip.counted, h))

-- what follows the hop's first byte begins with the hop and its field
after_hop : (p : Contents) (j : ℕ) → IsPacket p → j < hop_count p
    → drop (hop_offset (spelling p) j) (spelling p)
    ≡ hop_bytes (get_or p.route.hops j no_hop) ++ (get_or p.fields j [] ++ (flat_map hop_with_field (drop (suc j) (zip p.route.hops p.fields)) ++ (dest_bytes p ++ p.payload)))
unfolding rows_of hop_with_field
after_hop p j ip h =
    let b = spelling p in
    let base = segment_offset (length p.route.segments) in
    let w = 13 + width_of p.first in
    let tail = dest_bytes p ++ p.payload in
    let more = flat_map hop_with_field (drop (suc j) (zip p.route.hops p.fields)) ++ tail in
    ap (λ n. drop n b) (hop_offset_spelled p j)
    ∙ sym (drop-drop (w * j) base b)
    ∙ ap (drop (w * j)) (after_segments p)
    ∙ row_at hop_with_field w (no_hop, []) (zip p.route.hops p.fields) tail j (rows_wide p ip) (omega (arith, length-rows_of p ip, h))
    ∙ ap (λ (r : HopHead × List ℕ). (hop_bytes r.0 ++ r.1) ++ more) (pair_at p j ip h)
    ∙ append_assoc (hop_bytes (get_or p.route.hops j no_hop)) (get_or p.fields j []) more

hop_read : (b : List ℕ) (at : ℕ) (h : HopHead) (rest : List ℕ) → IsHop h → drop at b ≡ hop_bytes h ++ rest → hop_head_at b at ≡ h
unfolding hop_head_at hop_bytes number u16_bytes
hop_read b at h rest ih e =
    let xs = hop_bytes h ++ rest in
    let start : at + 0 ≡ at = omega arith in
    let exp : byte b at ≡ h.exp = ap (byte b) (sym start) ∙ byte_from b xs at 0 e in
    let inn = ap (from_be_bytes w16) (piece_from b xs at 1 2 e) ∙ from_be_bytes-to_be_bytes_2 h.inn ih.inn in
    let out = ap (from_be_bytes w16) (piece_from b xs at 3 2 e) ∙ from_be_bytes-to_be_bytes_2 h.out ih.out in
    let link : piece b (at + 5) 8 ≡ h.link = piece_from b xs at 5 8 e ∙ take_at h.link rest 8 ih.link in
    λ i. record { exp = exp i; inn = inn i; out = out i; link = link i }

hop_spelled : (p : Contents) (j : ℕ) → IsPacket p → j < hop_count p → hop_at (spelling p) j ≡ get_or p.route.hops j no_hop
hop_spelled p j ip h = hop_read (spelling p) (hop_offset (spelling p) j) _ _ (ip.route.hops j no_hop h) (after_hop p j ip h)

field_spelled : (p : Contents) (j : ℕ) → IsPacket p → j < hop_count p → field_at (spelling p) j ≡ get_or p.fields j []
field_spelled p j ip h =
    let b = spelling p in
    let head = get_or p.route.hops j no_hop in
    let v = get_or p.fields j [] in
    let more = flat_map hop_with_field (drop (suc j) (zip p.route.hops p.fields)) ++ (dest_bytes p ++ p.payload) in
    piece_from b (hop_bytes head ++ (v ++ more)) (hop_offset b j) 13 (width_of (byte b 0)) (after_hop p j ip h)
    ∙ ap (take (width_of (byte b 0))) (drop_at (hop_bytes head) (v ++ more) 13 (length-hop_bytes head (ip.route.hops j no_hop h)))
    ∙ ap (λ f. take (width_of f) (v ++ more)) (first_spelled p)
    ∙ take_at v more (width_of p.first) (ip.fields j [] (omega (arith, ip.counted, h)))

hops_read : (p : Contents) → IsPacket p → map (hop_at (spelling p)) (range_with_len 0 (hops_in (spelling p))) ≡ p.route.hops
hops_read p ip =
    ap (λ n. map (hop_at (spelling p)) (range_with_len 0 n)) (hops_spelled p ip)
    ∙ sym (fill_by_all (hop_at (spelling p)) p.route.hops (hop_count p) no_hop refl (λ j h. sym (hop_spelled p j ip h)))

fields_read : (p : Contents) → IsPacket p → map (field_at (spelling p)) (range_with_len 0 (hops_in (spelling p))) ≡ p.fields
fields_read p ip =
    ap (λ n. map (field_at (spelling p)) (range_with_len 0 n)) (hops_spelled p ip)
    ∙ sym (fill_by_all (field_at (spelling p)) p.fields (hop_count p) [] ip.counted (λ j h. sym (field_spelled p j ip h)))

-- ---- what follows the hops

dest_offset_spelled : (p : Contents) → IsPacket p → dest_offset (spelling p) ≡ segment_offset (length p.route.segments) + (13 + width_of p.first) * hop_count p
dest_offset_spelled p ip = hop_offset_spelled p (hops_in (spelling p)) ∙ ap (λ n. segment_offset (length p.route.segments) + (13 + width_of p.first) * n) (hops_spelled p ip)

after_hops : (p : Contents) → IsPacket p → drop (dest_offset (spelling p)) (spelling p) ≡ dest_bytes p ++ p.payload
unfolding rows_of
after_hops p ip =
    let b = spelling p in
    let w = 13 + width_of p.first in
    let base = segment_offset (length p.route.segments) in
    let rows = zip p.route.hops p.fields in
    let size : length (flat_map hop_with_field rows) ≡ w * hop_count p = length-rows hop_with_field w rows (rows_wide p ip) ∙ ap (λ n. w * n) (length-rows_of p ip) in
    ap (λ n. drop n b) (dest_offset_spelled p ip)
    ∙ sym (drop-drop (w * hop_count p) base b)
    ∙ ap (drop (w * hop_count p)) (after_segments p)
    ∙ drop_at (flat_map hop_with_field rows) (dest_bytes p ++ p.payload) (w * hop_count p) size

dest_read : (p : Contents) → IsPacket p → dest_field_in (spelling p) ≡ p.dest_field
unfolding dest_field_in dest_bytes
dest_read p ip =
    let b = spelling p in
    ap (λ f. if is_tagged f then piece b (dest_offset b) 16 else replicate 16 0) (first_spelled p)
    ∙ ⊎_elim
    (λ t. cond-true _ _ _ t ∙ ap (take 16) (after_hops p ip ∙ ap (λ xs. xs ++ p.payload) (cond-true _ p.dest_field [] t)) ∙ take_at p.dest_field p.payload 16 ip.dest_length)
    (λ f. cond-false _ _ _ f ∙ sym (ip.untagged f))
    (cases_Bool (is_tagged p.first))

pub length-dest_bytes : (p : Contents) → IsPacket p → length (dest_bytes p) ≡ dest_len p.first
unfolding dest_bytes dest_len
length-dest_bytes p ip =
    ⊎_elim
    (λ t. ap length (cond-true _ p.dest_field [] t) ∙ ip.dest_length ∙ sym (cond-true {A = ℕ} (is_tagged p.first) 16 0 t))
    (λ f. ap length (cond-false _ p.dest_field [] f) ∙ sym (cond-false {A = ℕ} (is_tagged p.first) 16 0 f))
    (cases_Bool (is_tagged p.first))

payload_read : (p : Contents) → IsPacket p → drop (header_len_in (spelling p)) (spelling p) ≡ p.payload
unfolding header_len_in
payload_read p ip =
    let b = spelling p in
    sym (drop-drop (dest_len (byte b 0)) (dest_offset b) b)
    ∙ ap (drop (dest_len (byte b 0))) (after_hops p ip)
    ∙ ap (λ f. drop (dest_len f) (dest_bytes p ++ p.payload)) (first_spelled p)
    ∙ drop_at (dest_bytes p) p.payload (dest_len p.first) (length-dest_bytes p ip)

-- ---- the whole

pub numbers_read : (p : Contents) → IsPacket p → (byte (spelling p) 7 ≡ p.current) × (host_at (spelling p) 8 24 ≡ p.src) × (host_at (spelling p) 16 28 ≡ p.dst) × (number w64 (spelling p) 32 ≡ p.ts)
unfolding spelling size_bytes end_bytes u16_bytes u32_bytes u64_bytes number
numbers_read p ip =
    let src_as = from_be_bytes-to_be_bytes_8 p.src.asn.0 ip.src.asn in
    let dst_as = from_be_bytes-to_be_bytes_8 p.dst.asn.0 ip.dst.asn in
    let src_host = from_be_bytes-to_be_bytes_4 p.src.host ip.src.host in
    let dst_host = from_be_bytes-to_be_bytes_4 p.dst.host ip.dst.host in (
      refl,
      (λ i. record { asn = record { 0 = src_as i }; host = src_host i }),
      (λ i. record { asn = record { 0 = dst_as i }; host = dst_host i }),
      from_be_bytes-to_be_bytes_8 p.ts ip.ts,
    )

pub parse-spelling : (p : Contents) → IsPacket p → parse (spelling p) ≡ p
unfolding parse route_in
parse-spelling p ip =
    let numbers = numbers_read p ip in
    let segments = segments_spelled p ip in
    let hops = hops_read p ip in
    let fields = fields_read p ip in
    let dest = dest_read p ip in
    let payload = payload_read p ip in
    let first = first_spelled p in
    λ i. record {
      first = first i;
      current = numbers.0 i;
      src = numbers.1 i;
      dst = numbers.2 i;
      ts = numbers.3 i;
      route = record { segments = segments i; hops = hops i };
      fields = fields i;
      dest_field = dest i;
      payload = payload i;
    }
