-- What encoding leaves, and that a valid packet's parts are within the limits.
use Rattle.std.proofs.Common.{◌≡◌, ℕ, ◌+◌, ◌*◌, ◌<◌, ◌≤◌, ◌^◌, Bool, true, false, List, [], ◌∷◌, ◌++◌, length, take, drop, get_or, map, replicate, refl, ap, sym, ◌∙◌, subst, ⊎_elim, arith, if◌then◌else◌}
use Rattle.std.specs.Prelude.{◌==◌, ◌&&◌, ◌||◌}
use Rattle.std.specs.List.{All, list_all, flat_map, zip}
use Rattle.std.proofs.lemmas.Bool.{and_parts, or_cases, leb-true, eqb-true, cond-true}
use Rattle.std.proofs.lemmas.List.{take_more, append-nil, append_assoc, length-append, length-map, get_or_append_left, get_or-append-add}
use Rattle.std.proofs.lemmas.List.Elements.{All-nil, All-cons, All-head, All-tail, All-append, All-map}
use Rattle.std.proofs.lemmas.List.Sums.{AllPass-from_list_all}
use Rattle.std.proofs.lemmas.List.Concat.{flat_map-append}
use Rattle.std.proofs.lemmas.List.Folds.{flat_map-map}
use Rattle.epic_num.specs.declared.hop.Level.{Level}
use Rattle.epic_num.specs.declared.hop.Level.TheVariants.{L0, L1, L2, L3}
use Rattle.epic_num.specs.Levels.{level_number, width_of, first_byte, is_first_byte, is_tagged}
use Rattle.epic_num.specs.Messages.{IsHost}
use Rattle.epic_num.proofs.MessageLaws.{at_tagged}
use Rattle.epic_layout.specs.declared.packet.PacketHop.{PacketHop}
use Rattle.epic_layout.specs.declared.packet.PacketSegment.{PacketSegment}
use Rattle.epic_layout.specs.declared.packet.Packet.{Packet}
use Rattle.epic_layout.specs.Route.{hops_of}
use Rattle.epic_layout.specs.Contents.{Contents, IsSegment, IsHop, IsRoute, IsPacket, field_bytes, segment_offset, header_len, dest_len}
use Rattle.epic_layout.specs.Packets.{segment_head_of, hop_head_of, row_of, FitsRow, all_hops, contents_of, is_version, is_segment, are_segments, are_zeros, is_field, are_fields, is_valid}
use Rattle.epic_layout.specs.Spelling.{segment_bytes, hop_with_field, size_bytes, end_bytes, dest_bytes, spelling}
use Rattle.epic_layout.proofs.Offsets.{width_most}
use Rattle.epic_layout.proofs.HopPlaces.{hops_of-cons}
use Rattle.epic_layout.proofs.Spelled.{zip-maps}

-- one row more
pub flat_map_take_more : {X : Type 0} (f : X → List ℕ) (xs : List X) (i : ℕ) (d : X) → i < length xs → flat_map f (take (i + 1) xs) ≡ flat_map f (take i xs) ++ f (get_or xs i d)
flat_map_take_more f xs i d h = ap (flat_map f) (take_more xs i d h) ∙ flat_map-append f (take i xs) (get_or xs i d ∷ []) ∙ ap (λ r. flat_map f (take i xs) ++ r) (append-nil (f (get_or xs i d)))

pub rows_step : {X : Type 0} (f : X → List ℕ) (start before after : List ℕ) (xs : List X) (i : ℕ) (d : X) → i < length xs
    → before ≡ start ++ flat_map f (take i xs) → after ≡ before ++ f (get_or xs i d) → after ≡ start ++ flat_map f (take (i + 1) xs)
rows_step f start before after xs i d h so_far e =
    e ∙ ap (λ m. m ++ f (get_or xs i d)) so_far ∙ append_assoc start (flat_map f (take i xs)) (f (get_or xs i d)) ∙ ap (λ m. start ++ m) (sym (flat_map_take_more f xs i d h))

-- ---- what holds of the hops of all segments

All-append_left : {X : Type 0} (P : X → Type 0) (xs ys : List X) → All P (xs ++ ys) → All P xs
All-append_left P xs ys all k d h = subst P (get_or_append_left xs ys d k h) (all k d (omega (arith, length-append xs ys)))

All-append_right : {X : Type 0} (P : X → Type 0) (xs ys : List X) → All P (xs ++ ys) → All P ys
All-append_right P xs ys all k d h = subst P (get_or-append-add xs ys k d) (all (length xs + k) d (omega (arith, length-append xs ys)))

pub each_of_all : (P : PacketHop → Type 0) (ss : List PacketSegment) → All P (all_hops ss) → All (λ s. All P s.hops.items) ss
unfolding all_hops
each_of_all P [] all = All-nil (λ (s : PacketSegment). All P s.hops.items)
each_of_all P (s ∷ ss) all =
    All-cons (λ (t : PacketSegment). All P t.hops.items) s ss (All-append_left P s.hops.items (all_hops ss) all) (each_of_all P ss (All-append_right P s.hops.items (all_hops ss) all))

pub all_of_each : (P : PacketHop → Type 0) (ss : List PacketSegment) → All (λ s. All P s.hops.items) ss → All P (all_hops ss)
unfolding all_hops
all_of_each P [] each = All-nil P
all_of_each P (s ∷ ss) each =
    let Q : PacketSegment → Type 0 = λ t. All P t.hops.items in
    All-append P s.hops.items (all_hops ss) (All-head Q s ss each) (all_of_each P ss (All-tail Q s ss each))

-- ---- the parts of a valid packet

pub record ValidParts (p : Packet) : Type 0 where
  pub version : is_version p.version p.level ≡ true
  pub some_segment : 1 ≤ length p.segments
  pub few_segments : length p.segments ≤ 3
  pub segments : All (λ s. (2 ≤ length s.hops.items) × (length s.hops.items ≤ 16)) p.segments
  pub few_hops : length (all_hops p.segments) ≤ 32
  pub fields : All (λ h. h.field.width ≡ width_of (first_byte p.version p.level)) (all_hops p.segments)
  pub current : p.current ≤ length (all_hops p.segments)
  pub zeros : is_tagged (first_byte p.version p.level) ≡ false → are_zeros p.dest_field ≡ true
  pub payload : length p.payload ≤ 8192

segments_of : (ss : List PacketSegment) → list_all is_segment ss ≡ true → All (λ s. (2 ≤ length s.hops.items) × (length s.hops.items ≤ 16)) ss
unfolding is_segment
segments_of ss e k d h =
    let n = length (get_or ss k d).hops.items in
    let both = and_parts _ _ (AllPass-from_list_all is_segment ss e k d h) in
    (leb-true 2 n both.0, leb-true n 16 both.1)

widths_of : (w : ℕ) (hops : List PacketHop) → are_fields w hops ≡ true → All (λ h. h.field.width ≡ w) hops
unfolding are_fields is_field
widths_of w hops e k d h =
    eqb-true (get_or hops k d).field.width w (and_parts _ _ (AllPass-from_list_all (λ (x : PacketHop). (x.field.width == w) && are_zeros (drop w x.field.bytes)) hops e k d h)).0

untagged_of : (t z : Bool) → (t || z) ≡ true → t ≡ false → z ≡ true
untagged_of true z e f = cc
untagged_of false z e f = e

pub valid_parts : (p : Packet) → is_valid p ≡ true → ValidParts p
unfolding is_valid are_segments
valid_parts p e =
    let ss = p.segments in
    let hops = all_hops ss in
    let first = first_byte p.version p.level in
    let a = and_parts _ _ e in
    let b = and_parts _ _ a.1 in
    let c = and_parts _ _ b.1 in
    let d = and_parts _ _ c.1 in
    let f = and_parts _ _ d.1 in
    let counts = and_parts _ _ b.0 in
    let number = and_parts _ _ counts.0 in
    let each = and_parts _ _ counts.1 in
    record {
      version = a.0;
      some_segment = leb-true 1 (length ss) number.0;
      few_segments = leb-true (length ss) 3 number.1;
      segments = segments_of ss each.0;
      few_hops = leb-true (length hops) 32 each.1;
      fields = widths_of (width_of first) hops c.0;
      current = leb-true p.current (length hops) d.0;
      zeros = untagged_of (is_tagged first) (are_zeros p.dest_field) f.0;
      payload = leb-true (length p.payload) 8192 f.1;
    }

-- ---- a valid packet says what is within the limits

-- what its types bound
pub record FitsTypes (p : Packet) : Type 0 where
  pub src : IsHost p.src
  pub dst : IsHost p.dst
  pub ts : p.ts < 2 ^ 64
  pub segments : All (λ s. s.ts_path < 2 ^ 32) p.segments
  pub hops : All (λ s. All FitsRow s.hops.items) p.segments
  pub dest : length p.dest_field ≡ 16

start_of_none : hops_of [] ≡ 0
unfolding hops_of
start_of_none = refl

hops_of-heads : (ss : List PacketSegment) → hops_of (map segment_head_of ss) ≡ length (all_hops ss)
unfolding all_hops
hops_of-heads [] = start_of_none
hops_of-heads (s ∷ ss) = hops_of-cons (segment_head_of s) (map segment_head_of ss) ∙ omega (arith, hops_of-heads ss, length-append s.hops.items (all_hops ss))

pub all_zeros : (v : List ℕ) → are_zeros v ≡ true → v ≡ replicate (length v) 0
all_zeros [] e = refl
all_zeros (x ∷ v) e =
    let both = and_parts _ _ e in
    λ i. eqb-true x 0 both.0 i ∷ all_zeros v both.1 i

heads_fit : (ss : List PacketSegment) → All (λ s. (2 ≤ length s.hops.items) × (length s.hops.items ≤ 16)) ss → All (λ s. s.ts_path < 2 ^ 32) ss → All (λ s. IsSegment (segment_head_of s)) ss
heads_fit ss counts times k d h = record { least = (counts k d h).0; most = (counts k d h).1; ts_path = times k d h }

version_1 : (level : Level) → is_first_byte (0xE0 + level_number level) ≡ true
unfolding is_first_byte level_number
version_1 L0 = refl
version_1 L1 = refl
version_1 L2 = refl
version_1 L3 = refl

tagged_exists : (f : ℕ) → is_tagged f ≡ true → is_first_byte f ≡ true
unfolding is_first_byte
tagged_exists = at_tagged (λ f. is_first_byte f ≡ true) refl refl refl refl

version_exists : (p : Packet) → is_version p.version p.level ≡ true → is_first_byte (first_byte p.version p.level) ≡ true
unfolding is_version first_byte
version_exists p e =
    let first = first_byte p.version p.level in
    let second = p.version == 2 && is_tagged first in
    ⊎_elim
    (λ one. ap is_first_byte (cond-true (p.version == 1) (0xE0 + level_number p.level) (0xF0 + level_number p.level) one) ∙ version_1 p.level)
    (λ two. let both = and_parts (p.version == 2) (is_tagged first) two in tagged_exists first both.1)
    (or_cases (p.version == 1) second e)

route_fits : (p : Packet) → ValidParts p → FitsTypes p → IsRoute (contents_of p).route
unfolding contents_of
route_fits p v t =
    let ss = p.segments in
    let hops = all_hops ss in
    let segments = length-map ss segment_head_of in
    let count = length-map hops hop_head_of in
    let rows = all_of_each FitsRow ss t.hops in
    record {
      some_segment = omega (arith, segments, v.some_segment);
      few_segments = omega (arith, segments, v.few_segments);
      segments = All-map IsSegment segment_head_of ss (heads_fit ss v.segments t.segments);
      counted = hops_of-heads ss ∙ sym count;
      few_hops = omega (arith, count, v.few_hops);
      hops = All-map IsHop hop_head_of hops (λ k d h. (rows k d h).head);
    }

pub IsPacket-contents : (p : Packet) → ValidParts p → FitsTypes p → IsPacket (contents_of p)
unfolding contents_of
IsPacket-contents p v t =
    let hops = all_hops p.segments in
    let first = first_byte p.version p.level in
    let rows = all_of_each FitsRow p.segments t.hops in
    let count = length-map hops hop_head_of in
    record {
      exists = version_exists p v.version;
      src = t.src;
      dst = t.dst;
      ts = t.ts;
      route = route_fits p v t;
      current = omega (arith, count, v.current);
      counted = length-map hops (λ h. field_bytes h.field) ∙ sym count;
      fields = All-map (λ x. length x ≡ width_of first) (λ h. field_bytes h.field) hops (λ k d h. (rows k d h).field ∙ v.fields k d h);
      dest_length = t.dest;
      untagged = λ f. all_zeros p.dest_field (v.zeros f) ∙ ap (λ n. replicate n 0) t.dest;
      payload = v.payload;
    }

-- ---- the spelling

rows_flat : (ss : List PacketSegment) → flat_map row_of (all_hops ss) ≡ flat_map (λ s. flat_map row_of s.hops.items) ss
unfolding all_hops
rows_flat [] = refl
rows_flat (s ∷ ss) = flat_map-append row_of s.hops.items (all_hops ss) ∙ ap (λ m. flat_map row_of s.hops.items ++ m) (rows_flat ss)

-- the hops of all segments, row by row
pub rows_spelled : (ss : List PacketSegment) → flat_map hop_with_field (zip (map hop_head_of (all_hops ss)) (map (λ h. field_bytes h.field) (all_hops ss))) ≡ flat_map (λ s. flat_map row_of s.hops.items) ss
unfolding all_hops hop_with_field
rows_spelled ss =
    let hops = all_hops ss in
    ap (flat_map hop_with_field) (zip-maps hop_head_of (λ (h : PacketHop). field_bytes h.field) hops)
    ∙ flat_map-map hop_with_field (λ (h : PacketHop). (hop_head_of h, field_bytes h.field)) hops
    ∙ rows_flat ss

pub segments_flat : (ss : List PacketSegment) → flat_map segment_bytes (map segment_head_of ss) ≡ flat_map (λ s. segment_bytes (segment_head_of s)) ss
segments_flat ss = flat_map-map segment_bytes segment_head_of ss

-- ---- for encoding

pub valid_few : (p : Packet) → is_valid p ≡ true → length p.segments ≤ 3
valid_few p e = (valid_parts p e).few_segments

pub valid_few_hops : (p : Packet) → is_valid p ≡ true → length (all_hops p.segments) ≤ 32
valid_few_hops p e = (valid_parts p e).few_hops

pub valid_payload : (p : Packet) → is_valid p ≡ true → length p.payload ≤ 8192
valid_payload p e = (valid_parts p e).payload

pub valid_narrow : (p : Packet) → is_valid p ≡ true → All (λ s. All (λ h. h.field.width ≤ 6) s.hops.items) p.segments
valid_narrow p e =
    each_of_all (λ h. h.field.width ≤ 6) p.segments
    (λ k d h. let w : (get_or (all_hops p.segments) k d).field.width ≡ width_of (first_byte p.version p.level) = (valid_parts p e).fields k d h in
    omega (arith, w, width_most (first_byte p.version p.level)))

pub header_contents : (p : Packet) → header_len (contents_of p) ≡ segment_offset (length p.segments) + (13 + width_of (first_byte p.version p.level)) * length (all_hops p.segments) + dest_len (first_byte p.version p.level)
unfolding header_len contents_of
header_contents p =
    let first = first_byte p.version p.level in
    let segments = length-map p.segments segment_head_of in
    let hops = length-map (all_hops p.segments) hop_head_of in
    λ i. segment_offset (segments i) + (13 + width_of first) * hops i + dest_len first

pub ruleset valid_limits = (valid_few, valid_few_hops, valid_payload, header_contents)

-- the parts of a packet put one after the other are its spelling
pub spelled_from : (p : Contents) (o1 o2 o3 o4 o5 o6 : List ℕ)
    → o1 ≡ size_bytes p
    → o2 ≡ o1 ++ end_bytes p
    → o3 ≡ o2 ++ flat_map segment_bytes p.route.segments
    → o4 ≡ o3 ++ flat_map hop_with_field (zip p.route.hops p.fields)
    → o5 ≡ o4 ++ dest_bytes p
    → o6 ≡ o5 ++ p.payload
    → o6 ≡ spelling p
unfolding spelling
spelled_from p o1 o2 o3 o4 o5 o6 e1 e2 e3 e4 e5 e6 =
    let a = size_bytes p in
    let b = end_bytes p in
    let c = flat_map segment_bytes p.route.segments in
    let d = flat_map hop_with_field (zip p.route.hops p.fields) in
    let e = dest_bytes p in
    let f = p.payload in
    e6
    ∙ ap (λ o. o ++ f) (e5 ∙ ap (λ o. o ++ e) (e4 ∙ ap (λ o. o ++ d) (e3 ∙ ap (λ o. o ++ c) (e2 ∙ ap (λ o. o ++ b) e1))))
    ∙ append_assoc ((((a ++ b) ++ c) ++ d)) e f
    ∙ append_assoc ((a ++ b) ++ c) d (e ++ f)
    ∙ append_assoc (a ++ b) c (d ++ (e ++ f))
    ∙ append_assoc a b (c ++ (d ++ (e ++ f)))

-- and so are those of a decoded packet
pub encoded : (p : Packet) (o1 o2 o3 o4 o5 o6 : List ℕ)
    → o1 ≡ size_bytes (contents_of p)
    → o2 ≡ o1 ++ end_bytes (contents_of p)
    → o3 ≡ o2 ++ flat_map (λ s. segment_bytes (segment_head_of s)) p.segments
    → o4 ≡ o3 ++ flat_map (λ s. flat_map row_of s.hops.items) p.segments
    → o5 ≡ o4 ++ (if is_tagged (first_byte p.version p.level) then p.dest_field else [])
    → o6 ≡ o5 ++ p.payload
    → o6 ≡ spelling (contents_of p)
unfolding dest_bytes contents_of
encoded p o1 o2 o3 o4 o5 o6 e1 e2 e3 e4 e5 e6 =
    let ss = p.segments in
    spelled_from (contents_of p) o1 o2 o3 o4 o5 o6 e1 e2
    (e3 ∙ ap (λ c. o2 ++ c) (sym (segments_flat ss)))
    (e4 ∙ ap (λ d. o3 ++ d) (sym (rows_spelled ss)))
    e5 e6
