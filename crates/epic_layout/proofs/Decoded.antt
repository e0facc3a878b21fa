-- What a decoded packet says.
use Rattle.std.proofs.Common.{◌≡◌, ℕ, zero, suc, ◌+◌, ◌-◌, ◌<◌, ◌≤◌, true, List, [], ◌∷◌, ◌++◌, length, drop, get_or, map, replicate, refl, ap, sym, ◌∙◌, subst, ⊎_elim, arith, zero-add}
use Rattle.std.specs.Prelude.{◌==◌, ◌||◌}
use Rattle.std.specs.List.{All, AllPass, list_all, flat_map, range_with_len}
use Rattle.std.specs.Int.{w64}
use Rattle.std.proofs.lemmas.Bool.{ltb-false, eqb-true, eq-eqb, le-leb, or_parts, or_cases, or_left, or_right, and_from, cases_Bool, false≢true}
use Rattle.std.proofs.lemmas.List.{append-nil, take_all, drop_at, length-map, get_or-map}
use Rattle.std.proofs.lemmas.List.Concat.{flat_map-append}
use Rattle.std.proofs.lemmas.List.Elements.{All-replicate}
use Rattle.std.proofs.lemmas.List.Folds.{list_all-map}
use Rattle.std.proofs.lemmas.List.Sums.{sum_by_more, sum_by_more_le, list_all-from_AllPass}
use Rattle.std.proofs.lemmas.Simd.{map-map}
use Rattle.std.proofs.lemmas.List.FromFn.{map-range_with_len_more, length-map-range_with_len, get_or-map-range_with_len}
use Rattle.arrayvec.specs.ArrayVec.{ArrayVec}
use Rattle.epic_layout.specs.declared.packet.PacketHop.{PacketHop}
use Rattle.epic_layout.specs.declared.packet.PacketSegment.{PacketSegment}
use Rattle.epic_layout.specs.declared.packet.Packet.{Packet}
use Rattle.epic_num.specs.Levels.{version_of, width_of, level_of, level_number, first_byte, is_first_byte, is_tagged}
use Rattle.epic_layout.specs.Pieces.{byte, number}
use Rattle.epic_layout.specs.Route.{hops_of, no_segment}
use Rattle.epic_layout.specs.Contents.{IsBytes, IsSegment, IsPacket, as_field, field_bytes}
use Rattle.epic_layout.specs.Layout.{parse, route_in, segments_in, segment_at, hops_in, hop_at, host_at, field_offset, field_at, dest_field_in, header_len_in, is_miscounted}
use Rattle.epic_layout.specs.Sound.{IsSound}
use Rattle.epic_layout.specs.Laws.{hops_before}
use Rattle.epic_layout.specs.Decoding.{packet_hop_at, packet_segment_at, packet_segments_in, packet_in}
use Rattle.epic_layout.specs.Packets.{segment_head_of, hop_head_of, all_hops, contents_of, is_version, is_segment, are_segments, are_zeros, is_field, are_fields, is_valid}
use Rattle.epic_layout.proofs.Fields.{field_bytes-as_field}
use Rattle.epic_layout.proofs.Ranges.{map_range_same, map_range_join}
use Rattle.epic_layout.proofs.Offsets.{hop_there}
use Rattle.epic_layout.proofs.Cuts.{length-piece}
use Rattle.epic_layout.proofs.Spelled.{no_segment_meets}
use Rattle.epic_layout.proofs.Limits.{All-range, IsPacket-parse}

pub hops_step : (b : List ℕ) (from i : ℕ) → map (packet_hop_at b) (range_with_len from (i + 1)) ≡ map (packet_hop_at b) (range_with_len from i) ++ packet_hop_at b (from + i) ∷ []
hops_step b from i = map-range_with_len_more (packet_hop_at b) from i (from + i) refl

pub ruleset hops_more = (hops_step)

-- ---- segments

length-segments : (b : List ℕ) → length (segments_in b) ≡ byte b 6
unfolding segments_in
length-segments b = length-map-range_with_len (segment_at b) 0 (byte b 6)

segment_of : (b : List ℕ) (i : ℕ) → i < byte b 6 → get_or (segments_in b) i no_segment ≡ segment_at b i
unfolding segments_in
segment_of b i h = get_or-map-range_with_len (segment_at b) 0 (byte b 6) i i no_segment h (zero-add i)

pub before_step : (b : List ℕ) (i : ℕ) → i < byte b 6 → hops_before (segments_in b) (i + 1) ≡ hops_before (segments_in b) i + (segment_at b i).count
unfolding hops_of
before_step b i h =
    let within : i < length (segments_in b) = omega (arith, length-segments b) in
    sum_by_more (λ s. s.count) (segments_in b) i no_segment within ∙ ap (λ s. hops_before (segments_in b) i + s.count) (segment_of b i h)

pub before_least : (b : List ℕ) (i : ℕ) → i < byte b 6 → hops_before (segments_in b) i + (segment_at b i).count ≤ hops_in b
unfolding hops_of
before_least b i h =
    let within : i < length (segments_in b) = omega (arith, length-segments b) in
    subst (λ s. hops_before (segments_in b) i + s.count ≤ hops_in b) (segment_of b i h) (sum_by_more_le (λ s. s.count) (segments_in b) i no_segment within)

pub count_most : (b : List ℕ) (i : ℕ) → IsSound b → i < byte b 6 → (segment_at b i).count ≤ 16
unfolding segment_at
count_most b i s h = ltb-false _ _ (or_parts _ _ (no_segment_meets (is_miscounted b) b i s.counted h)).1

pub segment_made : (b : List ℕ) (i passed : ℕ) (hs : ArrayVec PacketHop) → hs.items ≡ map (packet_hop_at b) (range_with_len passed (segment_at b i).count) → passed ≡ hops_before (segments_in b) i
    → packet_segment_at b i ≡ record { against = (segment_at b i).against; ts_path = (segment_at b i).ts_path; hops = hs }
unfolding packet_segment_at
segment_made b i passed hs e p =
    let items : map (packet_hop_at b) (range_with_len (hops_before (segments_in b) i) (segment_at b i).count) ≡ hs.items = ap (λ n. map (packet_hop_at b) (range_with_len n (segment_at b i).count)) (sym p) ∙ sym e in
    λ k. record { against = (segment_at b i).against; ts_path = (segment_at b i).ts_path; hops = record { items = items k } }

pub segments_step : (b : List ℕ) (i : ℕ) → map (packet_segment_at b) (range_with_len 0 (i + 1)) ≡ map (packet_segment_at b) (range_with_len 0 i) ++ packet_segment_at b i ∷ []
segments_step b i = map-range_with_len_more (packet_segment_at b) 0 i i (zero-add i)

-- the hops of segment i are within those of the packet
pub within_hops : (b : List ℕ) (i passed : ℕ) → i < byte b 6 → passed ≡ hops_before (segments_in b) i → passed + (segment_at b i).count ≤ hops_in b
within_hops b i passed h p = omega (arith, before_least b i h, p)

pub start_before : (b : List ℕ) → hops_before (segments_in b) 0 ≡ 0
unfolding hops_of
start_before b = refl

pub ruleset segments_more = (before_step, before_least, count_most, segments_step, start_before)

pub ruleset segment_parts = (within_hops, count_most, segment_made)

-- ---- first bytes

-- what holds of each first byte that exists
at_first : (P : ℕ → Type 0) → P 0xE0 → P 0xE1 → P 0xE2 → P 0xE3 → P 0xF2 → P 0xF3 → (f : ℕ) → is_first_byte f ≡ true → P f
unfolding is_first_byte
at_first P a b c d e g f h =
    ⊎_elim (λ t. subst P (sym (eqb-true f 0xE0 t)) a) (λ h1.
    ⊎_elim (λ t. subst P (sym (eqb-true f 0xE1 t)) b) (λ h2.
    ⊎_elim (λ t. subst P (sym (eqb-true f 0xE2 t)) c) (λ h3.
    ⊎_elim (λ t. subst P (sym (eqb-true f 0xE3 t)) d) (λ h4.
    ⊎_elim (λ t. subst P (sym (eqb-true f 0xF2 t)) e) (λ h5.
    ⊎_elim (λ t. subst P (sym (eqb-true f 0xF3 t)) g) (λ h6. absurd (false≢true h6))
    (or_cases _ _ h5)) (or_cases _ _ h4)) (or_cases _ _ h3)) (or_cases _ _ h2)) (or_cases _ _ h1)) (or_cases _ _ h)

first_byte_of : (f : ℕ) → is_first_byte f ≡ true → first_byte (version_of f) (level_of f) ≡ f
unfolding first_byte version_of level_of level_number
first_byte_of = at_first (λ f. first_byte (version_of f) (level_of f) ≡ f) refl refl refl refl refl refl

-- ---- the whole

segment_hops : (b : List ℕ) (i : ℕ) → (packet_segment_at b i).hops.items ≡ map (packet_hop_at b) (range_with_len (hops_before (segments_in b) i) (segment_at b i).count)
unfolding packet_segment_at
segment_hops b i = refl

hops_upto : (b : List ℕ) (i : ℕ) → i ≤ byte b 6 → all_hops (map (packet_segment_at b) (range_with_len 0 i)) ≡ map (packet_hop_at b) (range_with_len 0 (hops_before (segments_in b) i))
unfolding all_hops
hops_upto b zero h = ap (λ n. map (packet_hop_at b) (range_with_len 0 n)) (sym (start_before b))
hops_upto b (suc i) h =
    let before = hops_before (segments_in b) i in
    let count = (segment_at b i).count in
    let items = λ (s : PacketSegment). s.hops.items in
    let more : suc i ≡ i + 1 = omega arith in
    let within : i < byte b 6 = omega arith in
    let start : 0 + before ≡ before = omega arith in
    ap (λ n. flat_map items (map (packet_segment_at b) (range_with_len 0 n))) more
    ∙ ap (flat_map items) (segments_step b i)
    ∙ flat_map-append items (map (packet_segment_at b) (range_with_len 0 i)) (packet_segment_at b i ∷ [])
    ∙ (λ k. hops_upto b i (omega arith) k ++ append-nil (packet_segment_at b i).hops.items k)
    ∙ ap (λ xs. map (packet_hop_at b) (range_with_len 0 before) ++ xs) (segment_hops b i ∙ ap (λ n. map (packet_hop_at b) (range_with_len n count)) (sym start))
    ∙ map_range_join (packet_hop_at b) 0 before count
    ∙ ap (λ n. map (packet_hop_at b) (range_with_len 0 n)) (sym (before_step b i within) ∙ ap (hops_before (segments_in b)) (sym more))

hops_decoded : (b : List ℕ) → all_hops (packet_segments_in b) ≡ map (packet_hop_at b) (range_with_len 0 (hops_in b))
unfolding packet_segments_in
hops_decoded b =
    let all : length (segments_in b) ≤ byte b 6 = omega (arith, length-segments b) in
    hops_upto b (byte b 6) (omega arith) ∙ ap (λ ss. map (packet_hop_at b) (range_with_len 0 (hops_of ss))) (take_all (byte b 6) (segments_in b) all)

heads_decoded : (b : List ℕ) → map segment_head_of (packet_segments_in b) ≡ segments_in b
unfolding packet_segments_in segments_in packet_segment_at
heads_decoded b =
    map-map segment_head_of (packet_segment_at b) (range_with_len 0 (byte b 6))
    ∙ map_range_same no_segment (λ i. segment_head_of (packet_segment_at b i)) (segment_at b) (byte b 6)
    (λ i _. let count = length-map-range_with_len (packet_hop_at b) (hops_before (segments_in b) i) (segment_at b i).count in
    λ k. record { against = (segment_at b i).against; count = count k; ts_path = (segment_at b i).ts_path })

field_read : (b : List ℕ) (j : ℕ) → IsSound b → j < hops_in b → field_bytes (packet_hop_at b j).field ≡ field_at b j
unfolding packet_hop_at
field_read b j s h = field_bytes-as_field (field_at b j)

contents_decoded : (b : List ℕ) → IsSound b → contents_of (packet_in b) ≡ parse b
unfolding contents_of packet_in parse route_in packet_hop_at
contents_decoded b s =
    let first = first_byte_of (byte b 0) s.first in
    let n = hops_in b in
    let hops : map hop_head_of (all_hops (packet_segments_in b)) ≡ map (hop_at b) (range_with_len 0 n)
    = ap (map hop_head_of) (hops_decoded b) ∙ map-map hop_head_of (packet_hop_at b) (range_with_len 0 n) in
    let fields : map (λ h. field_bytes h.field) (all_hops (packet_segments_in b)) ≡ map (field_at b) (range_with_len 0 n)
    = ap (map (λ h. field_bytes h.field)) (hops_decoded b)
    ∙ map-map (λ h. field_bytes h.field) (packet_hop_at b) (range_with_len 0 n)
    ∙ map_range_same [] (λ j. field_bytes (packet_hop_at b j).field) (field_at b) n (λ j h. field_read b j s h) in
    let segments = heads_decoded b in
    λ i. record {
      first = first i;
      current = byte b 7;
      src = host_at b 8 24;
      dst = host_at b 16 28;
      ts = number w64 b 32;
      route = record { segments = segments i; hops = hops i };
      fields = fields i;
      dest_field = dest_field_in b;
      payload = drop (header_len_in b) b;
    }

-- ---- it is valid

segments_pass : (ss : List PacketSegment) → All IsSegment (map segment_head_of ss) → AllPass is_segment ss
unfolding is_segment
segments_pass ss all k d h =
    let s = get_or ss k d in
    let within : k < length (map segment_head_of ss) = omega (arith, length-map ss segment_head_of, h) in
    let same = get_or-map segment_head_of ss k d no_segment h in
    let fits : IsSegment (segment_head_of s) = subst IsSegment same (all k no_segment within) in
    and_from _ _ (le-leb 2 (length s.hops.items) fits.least) (le-leb (length s.hops.items) 16 fits.most)

zeros_pass : (v : List ℕ) → v ≡ replicate 16 0 → are_zeros v ≡ true
zeros_pass v e = ap are_zeros e

fields_fit : (b : List ℕ) → IsSound b → are_fields (width_of (byte b 0)) (all_hops (packet_segments_in b)) ≡ true
unfolding are_fields is_field packet_hop_at as_field
fields_fit b s =
    let w = width_of (byte b 0) in
    let test = λ (h : PacketHop). is_field w h.field in
    ap (list_all test) (hops_decoded b)
    ∙ list_all-map test (packet_hop_at b) (range_with_len 0 (hops_in b))
    ∙ list_all-from_AllPass (λ j. test (packet_hop_at b j)) (range_with_len 0 (hops_in b))
    (All-range (λ j. test (packet_hop_at b j) ≡ true) (hops_in b) (λ j h. let v = field_at b j in
    let size : length v ≡ w = length-piece b (field_offset b j) w (omega (arith, hop_there b j s h)) in
    and_from _ _ (eq-eqb (length v) w size)
    (ap (list_all (λ x. x == 0)) (drop_at v (replicate (6 - length v) 0) w size) ∙ list_all-from_AllPass (λ x. x == 0) (replicate (6 - length v) 0) (All-replicate (λ x. (x == 0) ≡ true) (6 - length v) 0 refl))))

version_fits : (f : ℕ) → is_first_byte f ≡ true → is_version (version_of f) (level_of f) ≡ true
unfolding is_version version_of level_of first_byte level_number is_tagged
version_fits = at_first (λ f. is_version (version_of f) (level_of f) ≡ true) refl refl refl refl refl refl

-- a packet is valid where it has a version's fields, and says what is within the limits
pub valid_from : (p : Packet) → is_version p.version p.level ≡ true → are_fields (width_of (first_byte p.version p.level)) (all_hops p.segments) ≡ true → IsPacket (contents_of p) → is_valid p ≡ true
unfolding is_valid contents_of are_segments
valid_from p v f ip =
    let ss = p.segments in
    let hops = all_hops ss in
    let count = length-map hops hop_head_of in
    let segments = length-map ss segment_head_of in
    let first = first_byte p.version p.level in
    let each = list_all-from_AllPass is_segment ss (segments_pass ss ip.route.segments) in
    let few = le-leb (length hops) 32 (omega (arith, count, ip.route.few_hops)) in
    let some = and_from _ _ (le-leb 1 (length ss) (omega (arith, segments, ip.route.some_segment))) (le-leb (length ss) 3 (omega (arith, segments, ip.route.few_segments))) in
    let dest : (is_tagged first || are_zeros p.dest_field) ≡ true = ⊎_elim (λ t. or_left _ _ t) (λ u. or_right _ _ (zeros_pass p.dest_field (ip.untagged u))) (cases_Bool (is_tagged first)) in
    and_from _ _ v
    (and_from _ _ (and_from _ _ some (and_from _ _ each few))
    (and_from _ _ f
    (and_from _ _ (le-leb p.current (length hops) (omega (arith, count, ip.current)))
    (and_from _ _ dest (le-leb (length p.payload) 8192 ip.payload)))))

pub decoded : (b : List ℕ) → IsBytes b → IsSound b → (is_valid (packet_in b) ≡ true) × (contents_of (packet_in b) ≡ parse b)
unfolding packet_in
decoded b bytes s =
    let says = contents_decoded b s in
    let f = byte b 0 in
    let fields = ap (λ w. are_fields w (all_hops (packet_segments_in b))) (ap width_of (first_byte_of f s.first)) ∙ fields_fit b s in
    (valid_from (packet_in b) (version_fits f s.first) fields (subst IsPacket (sym says) (IsPacket-parse b bytes s)), says)
