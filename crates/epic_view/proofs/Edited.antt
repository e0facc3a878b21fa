-- What an edit of a packet's bytes leaves as it was.
use Rattle.std.proofs.Common.{◌≡◌, ℕ, ◌+◌, ◌-◌, ◌*◌, ◌<◌, ◌≤◌, Bool, false, List, length, drop, map, replicate, ap, sym, ◌∙◌, inl, inr, ⊎_elim, arith, if◌then◌else◌}
use Rattle.std.specs.Prelude.{◌⊎◌, ◌==◌, nat_lt, not, ◌||◌}
use Rattle.std.specs.List.{range_with_len}
use Rattle.std.specs.Int.{Width, byte_len, from_be_bytes, w16, w32, w64}
use Rattle.std.proofs.lemmas.List.{ext_get_or, length-drop, get_or-drop}
use Rattle.std.proofs.lemmas.List.Folds.{list_any_none}
use Rattle.epic_num.specs.Levels.{width_of, is_tagged, is_first_byte}
use Rattle.epic_layout.specs.Pieces.{byte, piece, number}
use Rattle.epic_layout.specs.Route.{hops_of, no_segment, no_hop}
use Rattle.epic_layout.specs.Contents.{segment_offset, dest_len}
use Rattle.epic_layout.specs.Layout.{parse, route_in, segments_in, segment_at, hops_in, hop_offset, hop_head_at, hop_at, field_offset, field_at, dest_offset, dest_field_in, header_len_in, host_at, any_segment, is_reserved, is_miscounted}
use Rattle.epic_layout.specs.Sound.{IsSound}
use Rattle.epic_layout.proofs.Ranges.{map_range_same}
use Rattle.epic_layout.proofs.Cuts.{byte-piece, length-piece}
use Rattle.epic_layout.proofs.Spelled.{no_segment_meets}
use Rattle.epic_layout.proofs.Limits.{All-range}

-- c is b but for w bytes from a place on
pub record SameOutside (b c : List ℕ) (at w : ℕ) : Type 0 where
  pub same_length : length c ≡ length b
  pub below : (x : ℕ) → x < at → byte c x ≡ byte b x
  pub above : (x : ℕ) → at + w ≤ x → byte c x ≡ byte b x

-- a range of n places from x on has none of those bytes
abbrev pub IsOutside : ℕ → ℕ → ℕ → ℕ → Type 0
IsOutside at w x n = (x + n ≤ at) ⊎ (at + w ≤ x)

pub piece_outside : (b c : List ℕ) (at w x n : ℕ) → SameOutside b c at w → IsOutside at w x n → x + n ≤ length b → piece c x n ≡ piece b x n
piece_outside b c at w x n s out there =
    let left = length-piece c x n (omega (arith, s.same_length, there)) in
    let right = length-piece b x n there in
    ext_get_or 0 (piece c x n) (piece b x n) (left ∙ sym right)
    (λ i h. let within : i < n = omega (arith, left, h) in
    byte-piece c x n i within
    ∙ ⊎_elim (λ o. s.below (x + i) (omega (arith, o, within))) (λ o. s.above (x + i) (omega (arith, o))) out
    ∙ sym (byte-piece b x n i within))

pub byte_outside : (b c : List ℕ) (at w x : ℕ) → SameOutside b c at w → IsOutside at w x 1 → byte c x ≡ byte b x
byte_outside b c at w x s out = ⊎_elim (λ o. s.below x (omega (arith, o))) (λ o. s.above x o) out

pub drop_outside : (b c : List ℕ) (at w x : ℕ) → SameOutside b c at w → at + w ≤ x → drop x c ≡ drop x b
drop_outside b c at w x s o =
    ext_get_or 0 (drop x c) (drop x b) (length-drop x c ∙ ap (λ n. n - x) s.same_length ∙ sym (length-drop x b))
    (λ i _. get_or-drop x c i 0 ∙ s.above (x + i) (omega (arith, o)) ∙ sym (get_or-drop x b i 0))

pub number_outside : (wd : Width) (b c : List ℕ) (at w x : ℕ) → SameOutside b c at w → IsOutside at w x (byte_len wd) → x + byte_len wd ≤ length b → number wd c x ≡ number wd b x
unfolding number
number_outside wd b c at w x s out there = ap (from_be_bytes wd) (piece_outside b c at w x (byte_len wd) s out there)

-- ---- the header

-- the bytes edited are none of the headers' but the current hop
pub record EditsBody (b c : List ℕ) (at w : ℕ) : Type 0 where
  pub sound : IsSound b
  pub same : SameOutside b c at w
  pub place : ((at ≡ 7) × (w ≡ 1)) ⊎ (segment_offset (byte b 6) ≤ at)

head_outside : (b c : List ℕ) (at w x n : ℕ) → EditsBody b c at w → x + n ≤ segment_offset (byte b 6) → (x + n ≤ 7) ⊎ (8 ≤ x) → IsOutside at w x n
head_outside b c at w x n e within seven =
    ⊎_elim (λ p. ⊎_elim (λ o. inl (omega (arith, o, p.0))) (λ o. inr (omega (arith, o, p.0, p.1))) seven)
    (λ far. inl (omega (arith, far, within))) e.place

pub first_same : (b c : List ℕ) (at w : ℕ) → EditsBody b c at w → byte c 0 ≡ byte b 0
first_same b c at w e = byte_outside b c at w 0 e.same (head_outside b c at w 0 1 e (omega arith) (inl (omega arith)))

pub count_same : (b c : List ℕ) (at w : ℕ) → EditsBody b c at w → byte c 6 ≡ byte b 6
count_same b c at w e = byte_outside b c at w 6 e.same (head_outside b c at w 6 1 e (omega arith) (inl (omega arith)))

segment_same : (b c : List ℕ) (at w i : ℕ) → EditsBody b c at w → i < byte b 6 → segment_at c i ≡ segment_at b i
unfolding segment_at
segment_same b c at w i e h =
    let there = e.sound.segments_there in
    let out = λ (x n : ℕ) (low : 8 ≤ x) (high : x + n ≤ segment_offset i + 8). head_outside b c at w x n e (omega arith) (inr low) in
    let direction = byte_outside b c at w (segment_offset i) e.same (out (segment_offset i) 1 (omega arith) (omega arith)) in
    let count = byte_outside b c at w (segment_offset i + 1) e.same (out (segment_offset i + 1) 1 (omega arith) (omega arith)) in
    let ts_path = number_outside w32 b c at w (segment_offset i + 4) e.same (out (segment_offset i + 4) 4 (omega arith) (omega arith)) (omega (arith, there)) in
    λ k. record { against = direction k == 1; count = count k; ts_path = ts_path k }

pub segments_same : (b c : List ℕ) (at w : ℕ) → EditsBody b c at w → segments_in c ≡ segments_in b
unfolding segments_in
segments_same b c at w e =
    ap (λ n. map (segment_at c) (range_with_len 0 n)) (count_same b c at w e)
    ∙ map_range_same no_segment (segment_at c) (segment_at b) (byte b 6) (λ i h. segment_same b c at w i e h)

pub hops_same : (b c : List ℕ) (at w : ℕ) → EditsBody b c at w → hops_in c ≡ hops_in b
hops_same b c at w e = ap hops_of (segments_same b c at w e)

pub hop_offset_same : (b c : List ℕ) (at w j : ℕ) → EditsBody b c at w → hop_offset c j ≡ hop_offset b j
unfolding hop_offset
hop_offset_same b c at w j e = λ i. segment_offset (count_same b c at w e i) + (13 + width_of (first_same b c at w e i)) * j

pub dest_offset_same : (b c : List ℕ) (at w : ℕ) → EditsBody b c at w → dest_offset c ≡ dest_offset b
dest_offset_same b c at w e = hop_offset_same b c at w (hops_in c) e ∙ ap (hop_offset b) (hops_same b c at w e)

pub header_len_same : (b c : List ℕ) (at w : ℕ) → EditsBody b c at w → header_len_in c ≡ header_len_in b
unfolding header_len_in
header_len_same b c at w e = λ i. dest_offset_same b c at w e i + dest_len (first_same b c at w e i)

-- no segment of c meets a test that none of b meets
none_meets : (p q : ℕ → Bool) (b c : List ℕ) → byte c 6 ≡ byte b 6 → ((i : ℕ) → i < byte b 6 → q i ≡ p i) → any_segment p b ≡ false → any_segment q c ≡ false
unfolding any_segment
none_meets p q b c n same none =
    list_any_none q (range_with_len 0 (byte c 6))
    (All-range (λ i. q i ≡ false) (byte c 6)
    (λ i h. let within : i < byte b 6 = omega (arith, n, h) in same i within ∙ no_segment_meets p b i none within))

number_16_same : (b c : List ℕ) (at w x : ℕ) → EditsBody b c at w → x + 2 ≤ 7 → number w16 c x ≡ number w16 b x
number_16_same b c at w x e h = number_outside w16 b c at w x e.same (head_outside b c at w x 2 e (omega arith) (inl h)) (omega (arith, e.sound.segments_there, e.sound.some_segment))

pub sound_kept : (b c : List ℕ) (at w : ℕ) → EditsBody b c at w → byte c 7 ≤ hops_in b → IsSound c
sound_kept b c at w e current =
    let s = e.sound in
    let first = first_same b c at w e in
    let count = count_same b c at w e in
    let hops = hops_same b c at w e in
    let header = header_len_same b c at w e in
    let header_is = number_16_same b c at w 2 e (omega arith) in
    let payload = number_16_same b c at w 4 e (omega arith) in
    let flags = byte_outside b c at w 1 e.same (head_outside b c at w 1 1 e (omega arith) (inl (omega arith))) in
    let plain = λ (i : ℕ) (h : i < byte b 6) (x : ℕ) (low : segment_offset i ≤ x) (high : x < segment_offset i + 8).
    byte_outside b c at w x e.same (head_outside b c at w x 1 e (omega arith) (inr (omega arith))) in
    record {
      first = ap is_first_byte first ∙ s.first;
      flags = flags ∙ s.flags;
      some_segment = omega (arith, count, s.some_segment);
      few_segments = omega (arith, count, s.few_segments);
      segments_there = omega (arith, count, e.same.same_length, s.segments_there);
      reserved = none_meets (is_reserved b) (is_reserved c) b c count
          (λ i h k. nat_lt 1 (plain i h (segment_offset i) (omega arith) (omega arith) k)
          || (not (plain i h (segment_offset i + 2) (omega arith) (omega arith) k == 0) || not (plain i h (segment_offset i + 3) (omega arith) (omega arith) k == 0))) s.reserved;
      counted = none_meets (is_miscounted b) (is_miscounted c) b c count
          (λ i h k. nat_lt (plain i h (segment_offset i + 1) (omega arith) (omega arith) k) 2 || nat_lt 16 (plain i h (segment_offset i + 1) (omega arith) (omega arith) k)) s.counted;
      few_hops = omega (arith, hops, s.few_hops);
      header = header_is ∙ s.header ∙ sym header;
      header_there = omega (arith, header, e.same.same_length, s.header_there);
      payload = omega (arith, payload, s.payload);
      whole = omega (arith, header, payload, e.same.same_length, s.whole);
      current = omega (arith, hops, current);
    }

-- ---- what the bytes say

-- the parts that an edit may change, as they are read after it at the places of before
pub record Reads (b c : List ℕ) (m : ℕ) (fs : List (List ℕ)) (d pl : List ℕ) : Type 0 where
  pub current : byte c 7 ≡ m
  pub hops : (k : ℕ) → k < hops_in b → hop_head_at c (hop_offset b k) ≡ hop_head_at b (hop_offset b k)
  pub fields : map (λ k. piece c (field_offset b k) (width_of (byte b 0))) (range_with_len 0 (hops_in b)) ≡ fs
  pub dest : (if is_tagged (byte b 0) then piece c (dest_offset b) 16 else replicate 16 0) ≡ d
  pub payload : drop (header_len_in b) c ≡ pl

host_same : (b c : List ℕ) (at w asn host : ℕ) → EditsBody b c at w → 8 ≤ asn → 8 ≤ host → asn + 8 ≤ 40 → host + 4 ≤ 40 → host_at c asn host ≡ host_at b asn host
host_same b c at w asn host e la lh ha hh =
    let there = e.sound.segments_there in
    let a = number_outside w64 b c at w asn e.same (head_outside b c at w asn 8 e (omega arith) (inr la)) (omega (arith, there)) in
    let h = number_outside w32 b c at w host e.same (head_outside b c at w host 4 e (omega arith) (inr lh)) (omega (arith, there)) in
    λ k. record { asn = record { 0 = a k }; host = h k }

hops_read : (b c : List ℕ) (at w : ℕ) → EditsBody b c at w → ((k : ℕ) → k < hops_in b → hop_head_at c (hop_offset b k) ≡ hop_head_at b (hop_offset b k)) → map (hop_at c) (range_with_len 0 (hops_in c)) ≡ map (hop_at b) (range_with_len 0 (hops_in b))
hops_read b c at w e same =
    ap (λ n. map (hop_at c) (range_with_len 0 n)) (hops_same b c at w e)
    ∙ map_range_same no_hop (hop_at c) (hop_at b) (hops_in b) (λ k h. ap (hop_head_at c) (hop_offset_same b c at w k e) ∙ same k h)

pub parse_edited : (b c : List ℕ) (at w m : ℕ) (fs : List (List ℕ)) (d pl : List ℕ) → EditsBody b c at w → Reads b c m fs d pl
    → parse c ≡ record (parse b) { current = m; fields = fs; dest_field = d; payload = pl }
unfolding parse route_in dest_field_in
parse_edited b c at w m fs d pl e r =
    let first = first_same b c at w e in
    let src = host_same b c at w 8 24 e (omega arith) (omega arith) (omega arith) (omega arith) in
    let dst = host_same b c at w 16 28 e (omega arith) (omega arith) (omega arith) (omega arith) in
    let ts = number_outside w64 b c at w 32 e.same (head_outside b c at w 32 8 e (omega arith) (inr (omega arith))) (omega (arith, e.sound.segments_there)) in
    let segments = segments_same b c at w e in
    let hops = hops_read b c at w e r.hops in
    let fields : map (field_at c) (range_with_len 0 (hops_in c)) ≡ fs
    = (λ i. map (λ k. piece c (hop_offset_same b c at w k e i + 13) (width_of (first i))) (range_with_len 0 (hops_same b c at w e i))) ∙ r.fields in
    let dest : dest_field_in c ≡ d
    = (λ i. if is_tagged (first i) then piece c (dest_offset_same b c at w e i) 16 else replicate 16 0) ∙ r.dest in
    let payload : drop (header_len_in c) c ≡ pl = ap (λ n. drop n c) (header_len_same b c at w e) ∙ r.payload in
    λ i. record {
      first = first i;
      current = r.current i;
      src = src i;
      dst = dst i;
      ts = ts i;
      route = record { segments = segments i; hops = hops i };
      fields = fields i;
      dest_field = dest i;
      payload = payload i;
    }
