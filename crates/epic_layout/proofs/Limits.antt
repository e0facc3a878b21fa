-- What sound bytes say is within the limits of the layout.
use Rattle.std.proofs.Common.{◌≡◌, ℕ, ◌+◌, ◌<◌, ◌≤◌, true, false, List, length, get_or, replicate, refl, sym, ◌∙◌, subst, arith, zero-add}
use Rattle.std.specs.List.{All, range_with_len}
use Rattle.std.specs.Int.{w16}
use Rattle.std.proofs.lemmas.Bool.{ltb-false, or_parts, cond-true, cond-false, cond_both}
use Rattle.std.proofs.lemmas.List.Elements.{All-from_get_or, All-map, All-drop, All-replicate}
use Rattle.std.proofs.lemmas.List.FromFn.{length-range_with_len, get_or-range_with_len, length-map-range_with_len}
use Rattle.epic_num.specs.Levels.{width_of, is_tagged}
use Rattle.epic_num.specs.Messages.{IsHost}
use Rattle.epic_layout.specs.Pieces.{byte, piece, number}
use Rattle.epic_layout.specs.Contents.{IsBytes, IsSegment, IsHop, IsRoute, IsPacket, HoldsBytes, segment_offset, dest_len}
use Rattle.epic_layout.specs.Layout.{parse, route_in, segments_in, segment_at, hops_in, hop_offset, hop_head_at, hop_at, field_offset, field_at, dest_offset, dest_field_in, header_len_in, host_at, is_miscounted}
use Rattle.epic_layout.specs.Sound.{IsSound}
use Rattle.epic_layout.proofs.Shapes.{segments_parse, hop_count_parse, payload_parse}
use Rattle.epic_layout.proofs.Offsets.{hop_there}
use Rattle.epic_layout.proofs.Cuts.{byte_fits, IsBytes-piece, length-piece, number_16, number_32, number_64}
use Rattle.epic_layout.proofs.Spelled.{no_segment_meets}

pub All-range : (P : ℕ → Type 0) (n : ℕ) → ((i : ℕ) → i < n → P i) → All P (range_with_len 0 n)
All-range P n each =
    All-from_get_or P (range_with_len 0 n) 0
    (λ i h. let within : i < n = omega (arith, length-range_with_len 0 n, h) in
    let here : i ≡ get_or (range_with_len 0 n) i 0 = sym (get_or-range_with_len 0 n i 0 within ∙ zero-add i) in
    subst P here (each i within))

IsHost-at : (b : List ℕ) (asn host : ℕ) → IsBytes b → IsHost (host_at b asn host)
IsHost-at b asn host bytes = record { asn = number_64 b asn bytes; host = number_32 b host bytes }

IsSegment-at : (b : List ℕ) (i : ℕ) → IsBytes b → IsSound b → i < byte b 6 → IsSegment (segment_at b i)
unfolding segment_at
IsSegment-at b i bytes s h =
    let parts = or_parts _ _ (no_segment_meets (is_miscounted b) b i s.counted h) in
    record { least = ltb-false _ _ parts.0; most = ltb-false _ _ parts.1; ts_path = number_32 b (segment_offset i + 4) bytes }

IsHop-at : (b : List ℕ) (at : ℕ) → IsBytes b → at + 13 ≤ length b → IsHop (hop_head_at b at)
unfolding hop_head_at
IsHop-at b at bytes there = record {
  exp = byte_fits b bytes at;
  inn = number_16 b (at + 1) bytes;
  out = number_16 b (at + 3) bytes;
  link = length-piece b (at + 5) 8 (omega arith);
}

pub IsRoute-parse : (b : List ℕ) → IsBytes b → IsSound b → IsRoute (parse b).route
unfolding parse route_in segments_in
IsRoute-parse b bytes s = record {
  some_segment = omega (arith, segments_parse b, s.some_segment);
  few_segments = omega (arith, segments_parse b, s.few_segments);
  segments = All-map IsSegment (segment_at b) _ (All-range (λ i. IsSegment (segment_at b i)) (byte b 6) (λ i h. IsSegment-at b i bytes s h));
  counted = sym (hop_count_parse b);
  few_hops = omega (arith, hop_count_parse b, s.few_hops);
  hops = All-map IsHop (hop_at b) _ (All-range (λ j. IsHop (hop_at b j)) (hops_in b) (λ j h. IsHop-at b (hop_offset b j) bytes (omega (arith, hop_there b j s h))));
}

dest_there : (b : List ℕ) → IsSound b → is_tagged (byte b 0) ≡ true → dest_offset b + 16 ≤ length b
unfolding header_len_in dest_len
dest_there b s e = omega (arith, s.header_there, cond-true {A = ℕ} (is_tagged (byte b 0)) 16 0 e)

length-dest_field : (b : List ℕ) → IsSound b → length (dest_field_in b) ≡ 16
unfolding dest_field_in
length-dest_field b s =
    cond_both (is_tagged (byte b 0)) (piece b (dest_offset b) 16) (replicate 16 0) (λ v. length v ≡ 16)
    (λ t. length-piece b (dest_offset b) 16 (dest_there b s t)) (λ _. refl)

IsBytes-dest_field : (b : List ℕ) → IsBytes b → IsBytes (dest_field_in b)
unfolding dest_field_in
IsBytes-dest_field b bytes =
    cond_both (is_tagged (byte b 0)) (piece b (dest_offset b) 16) (replicate 16 0) IsBytes
    (λ _. IsBytes-piece b bytes (dest_offset b) 16) (λ _. All-replicate (λ x. x < 256) 16 0 (omega arith))

untagged_zeros : (b : List ℕ) → is_tagged (byte b 0) ≡ false → dest_field_in b ≡ replicate 16 0
unfolding dest_field_in
untagged_zeros b e = cond-false _ _ _ e

pub IsPacket-parse : (b : List ℕ) → IsBytes b → IsSound b → IsPacket (parse b)
unfolding parse
IsPacket-parse b bytes s = record {
  exists = s.first;
  src = IsHost-at b 8 24 bytes;
  dst = IsHost-at b 16 28 bytes;
  ts = number_64 b 32 bytes;
  route = IsRoute-parse b bytes s;
  current = omega (arith, hop_count_parse b, s.current);
  counted = length-map-range_with_len (field_at b) 0 (hops_in b) ∙ sym (hop_count_parse b);
  fields = All-map (λ v. length v ≡ width_of (byte b 0)) (field_at b) _
      (All-range (λ j. length (field_at b j) ≡ width_of (byte b 0)) (hops_in b) (λ j h. length-piece b (field_offset b j) (width_of (byte b 0)) (omega (arith, hop_there b j s h))));
  dest_length = length-dest_field b s;
  untagged = untagged_zeros b;
  payload = omega (arith, payload_parse b (number w16 b 4) s.whole, s.payload);
}

link_bytes : (b : List ℕ) (at : ℕ) → IsBytes b → IsBytes (hop_head_at b at).link
unfolding hop_head_at
link_bytes b at bytes = IsBytes-piece b bytes (at + 5) 8

pub HoldsBytes-parse : (b : List ℕ) → IsBytes b → HoldsBytes (parse b)
unfolding parse route_in
HoldsBytes-parse b bytes = record {
  links = All-map (λ h. IsBytes h.link) (hop_at b) _ (All-range (λ j. IsBytes (hop_at b j).link) (hops_in b) (λ j _. link_bytes b (hop_offset b j) bytes));
  field_bytes = All-map IsBytes (field_at b) _ (All-range (λ j. IsBytes (field_at b j)) (hops_in b) (λ j _. IsBytes-piece b bytes (field_offset b j) (width_of (byte b 0))));
  dest_bytes = IsBytes-dest_field b bytes;
  payload_bytes = All-drop (λ x. x < 256) (header_len_in b) b bytes;
}
