-- Valid packets that say the same are the same.
use Rattle.std.proofs.Common.{◌≡◌, ℕ, ◌-◌, true, List, [], ◌∷◌, ◌++◌, length, take, drop, get_or, map, replicate, refl, ap, sym, ◌∙◌, ⊎_elim, arith}
use Rattle.std.specs.Prelude.{◌==◌, ◌&&◌}
use Rattle.std.specs.List.{All}
use Rattle.std.proofs.lemmas.Bool.{and_parts, or_cases, eqb-true}
use Rattle.std.proofs.lemmas.List.{length-drop, take-append-drop}
use Rattle.std.proofs.lemmas.List.Elements.{All-head, All-tail}
use Rattle.std.proofs.lemmas.List.Sums.{AllPass-from_list_all}
use Rattle.epic_num.specs.declared.hop.Level.{Level}
use Rattle.epic_num.specs.Levels.{version_of, level_of, width_of, first_byte, is_tagged}
use Rattle.epic_num.proofs.LevelLaws.{version_of-first_byte_1, version_of-first_byte_2, level_of-first_byte_1, level_of-first_byte_2}
use Rattle.epic_num.proofs.Reading.{read_part}
use Rattle.epic_layout.specs.declared.packet.PacketHop.{PacketHop}
use Rattle.epic_layout.specs.declared.packet.PacketSegment.{PacketSegment}
use Rattle.epic_layout.specs.declared.packet.Packet.{Packet}
use Rattle.epic_layout.specs.Contents.{field_bytes}
use Rattle.epic_layout.specs.Packets.{segment_head_of, hop_head_of, all_hops, contents_of, is_version, are_zeros, is_field, are_fields, is_valid, ValidPacketsAreOne}
use Rattle.epic_layout.proofs.Encoded.{all_zeros, valid_parts}

-- ---- version and level

version_back : (v : ℕ) (l : Level) → is_version v l ≡ true → version_of (first_byte v l) ≡ v
unfolding is_version
version_back v l e =
    ⊎_elim
    (λ one. let is : v ≡ 1 = eqb-true v 1 one in ap (λ n. version_of (first_byte n l)) is ∙ version_of-first_byte_1 l ∙ sym is)
    (λ two. let is : v ≡ 2 = eqb-true v 2 (and_parts (v == 2) (is_tagged (first_byte v l)) two).0 in ap (λ n. version_of (first_byte n l)) is ∙ version_of-first_byte_2 l ∙ sym is)
    (or_cases (v == 1) (v == 2 && is_tagged (first_byte v l)) e)

level_back : (v : ℕ) (l : Level) → is_version v l ≡ true → level_of (first_byte v l) ≡ l
unfolding is_version
level_back v l e =
    ⊎_elim
    (λ one. ap (λ n. level_of (first_byte n l)) (eqb-true v 1 one) ∙ level_of-first_byte_1 l)
    (λ two. ap (λ n. level_of (first_byte n l)) (eqb-true v 2 (and_parts (v == 2) (is_tagged (first_byte v l)) two).0) ∙ level_of-first_byte_2 l)
    (or_cases (v == 1) (v == 2 && is_tagged (first_byte v l)) e)

-- ---- hops

record IsWhole (w : ℕ) (h : PacketHop) : Type 0 where
  width : h.field.width ≡ w
  zeros : are_zeros (drop w h.field.bytes) ≡ true
  size : length h.field.bytes ≡ 6

field_same : (w : ℕ) (x y : PacketHop) → IsWhole w x → IsWhole w y → field_bytes x.field ≡ field_bytes y.field → x.field ≡ y.field
field_same w x y p q e =
    let a = x.field.bytes in
    let b = y.field.bytes in
    let front : take w a ≡ take w b = ap (λ n. take n a) (sym p.width) ∙ e ∙ ap (λ n. take n b) q.width in
    let back : drop w a ≡ drop w b = all_zeros (drop w a) p.zeros ∙ ap (λ n. replicate n 0) (length-drop w a ∙ ap (λ n. n - w) (p.size ∙ sym q.size) ∙ sym (length-drop w b)) ∙ sym (all_zeros (drop w b) q.zeros) in
    let bytes : a ≡ b = sym (take-append-drop w a) ∙ (λ i. front i ++ back i) ∙ take-append-drop w b in
    let width = p.width ∙ sym q.width in
    λ i. record { bytes = bytes i; width = width i }

hop_same : (w : ℕ) (x y : PacketHop) → IsWhole w x → IsWhole w y → hop_head_of x ≡ hop_head_of y → field_bytes x.field ≡ field_bytes y.field → x ≡ y
hop_same w x y p q e f =
    let field = field_same w x y p q f in
    λ i. record { exp = (e i).exp; inn = (e i).inn; out = (e i).out; link = (e i).link; field = field i }

hops_same : (w : ℕ) (xs ys : List PacketHop) → All (IsWhole w) xs → All (IsWhole w) ys → map hop_head_of xs ≡ map hop_head_of ys → map (λ h. field_bytes h.field) xs ≡ map (λ h. field_bytes h.field) ys → xs ≡ ys
hops_same w [] [] p q e f = refl
hops_same w [] (y ∷ ys) p q e f = absurd (omega (arith, ap length e))
hops_same w (x ∷ xs) [] p q e f = absurd (omega (arith, ap length e))
hops_same w (x ∷ xs) (y ∷ ys) p q e f =
    let heads : hop_head_of x ≡ hop_head_of y = ap (λ hs. get_or hs 0 (hop_head_of x)) e in
    let fields : field_bytes x.field ≡ field_bytes y.field = ap (λ vs. get_or vs 0 []) f in
    let first = hop_same w x y (All-head (IsWhole w) x xs p) (All-head (IsWhole w) y ys q) heads fields in
    let rest = hops_same w xs ys (All-tail (IsWhole w) x xs p) (All-tail (IsWhole w) y ys q) (ap (drop 1) e) (ap (drop 1) f) in
    λ i. first i ∷ rest i

-- ---- segments

segments_same : (ss tt : List PacketSegment) → map segment_head_of ss ≡ map segment_head_of tt → all_hops ss ≡ all_hops tt → ss ≡ tt
unfolding all_hops
segments_same [] [] e f = refl
segments_same [] (t ∷ tt) e f = absurd (omega (arith, ap length e))
segments_same (s ∷ ss) [] e f = absurd (omega (arith, ap length e))
segments_same (s ∷ ss) (t ∷ tt) e f =
    let head : segment_head_of s ≡ segment_head_of t = ap (λ hs. get_or hs 0 (segment_head_of s)) e in
    let parts = read_part s.hops.items t.hops.items (all_hops ss) (all_hops tt) (ap (λ h. h.count) head) f in
    let rest = segments_same ss tt (ap (drop 1) e) parts.1 in
    let items = parts.0 in
    λ i. record { against = (head i).against; ts_path = (head i).ts_path; hops = record { items = items i } } ∷ rest i

-- ---- packets

whole_hops : (w : ℕ) (hops : List PacketHop) → are_fields w hops ≡ true → All (λ h. length h.field.bytes ≡ 6) hops → All (IsWhole w) hops
unfolding are_fields is_field
whole_hops w hops e sizes k d h =
    let x = get_or hops k d in
    let both = and_parts (x.field.width == w) (are_zeros (drop w x.field.bytes)) (AllPass-from_list_all (λ (y : PacketHop). (y.field.width == w) && are_zeros (drop w y.field.bytes)) hops e k d h) in
    record { width = eqb-true x.field.width w both.0; zeros = both.1; size = sizes k d h }

fields_of_valid : (p : Packet) → is_valid p ≡ true → are_fields (width_of (first_byte p.version p.level)) (all_hops p.segments) ≡ true
unfolding is_valid
fields_of_valid p e = (and_parts _ _ (and_parts _ _ (and_parts _ _ e).1).1).0

pub valid_packets_are_one : ValidPacketsAreOne
unfolding contents_of
valid_packets_are_one p q v u a b e =
    let first : first_byte p.version p.level ≡ first_byte q.version q.level = ap (λ c. c.first) e in
    let w = width_of (first_byte q.version q.level) in
    let left : are_fields w (all_hops p.segments) ≡ true = ap (λ f. are_fields (width_of f) (all_hops p.segments)) (sym first) ∙ fields_of_valid p v in
    let hops = hops_same w (all_hops p.segments) (all_hops q.segments) (whole_hops w (all_hops p.segments) left a) (whole_hops w (all_hops q.segments) (fields_of_valid q u) b) (ap (λ c. c.route.hops) e) (ap (λ c. c.fields) e) in
    let segments = segments_same p.segments q.segments (ap (λ c. c.route.segments) e) hops in
    let version = sym (version_back p.version p.level (valid_parts p v).version) ∙ ap version_of first ∙ version_back q.version q.level (valid_parts q u).version in
    let level = sym (level_back p.version p.level (valid_parts p v).version) ∙ ap level_of first ∙ level_back q.version q.level (valid_parts q u).version in
    λ i. record {
      version = version i;
      level = level i;
      current = (e i).current;
      src = (e i).src;
      dst = (e i).dst;
      ts = (e i).ts;
      segments = segments i;
      dest_field = (e i).dest_field;
      payload = (e i).payload;
    }
