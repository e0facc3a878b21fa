-- Sound bytes are the spelling of what they say.
use Rattle.std.proofs.Common.{◌≡◌, ℕ, zero, suc, ◌+◌, ◌*◌, ◌<◌, ◌≤◌, Bool, true, false, List, [], ◌∷◌, ◌++◌, length, drop, get_or, map, refl, ap, sym, ◌∙◌, arith, zero-add, if◌then◌else◌}
use Rattle.std.specs.Prelude.{◌==◌}
use Rattle.std.specs.List.{flat_map, range_with_len, zip}
use Rattle.std.specs.Int.{w16}
use Rattle.std.proofs.lemmas.Bool.{ltb-false, eqb-true, not-false, or_parts, false_from_ne_true, false≢true}
use Rattle.std.proofs.lemmas.List.Folds.{flat_map-map, list_any_at}
use Rattle.std.proofs.lemmas.List.FromFn.{length-range_with_len, get_or-range_with_len}
use Rattle.epic_num.specs.Levels.{width_of, is_tagged}
use Rattle.epic_num.specs.BigEndian.{u16_bytes}
use Rattle.epic_layout.specs.Pieces.{byte, piece, number}
use Rattle.epic_layout.specs.Contents.{IsBytes, segment_offset, dest_len, header_len}
use Rattle.epic_layout.specs.Layout.{parse, route_in, segments_in, segment_at, hops_in, hop_len, hop_offset, hop_head_at, hop_at, field_at, dest_offset, dest_field_in, header_len_in, any_segment, is_reserved}
use Rattle.epic_layout.specs.Sound.{IsSound}
use Rattle.epic_layout.specs.Spelling.{segment_bytes, hop_bytes, path_bytes, hop_with_field, size_bytes, end_bytes, dest_bytes, spelling}
use Rattle.epic_layout.proofs.Shapes.{segments_parse, header_len_parse, payload_parse}
use Rattle.epic_layout.proofs.Offsets.{hop_there}
use Rattle.epic_layout.proofs.Cuts.{piece-add, piece-suc, piece_2, piece_4, drop-piece, u16_bytes-number, u32_bytes-number, u64_bytes-number, rows}

-- a test that no segment meets isn't met by segment i
pub no_segment_meets : (test : ℕ → Bool) (b : List ℕ) (i : ℕ) → any_segment test b ≡ false → i < byte b 6 → test i ≡ false
unfolding any_segment
no_segment_meets test b i none h =
    let n = byte b 6 in
    let within : i < length (range_with_len 0 n) = omega (arith, length-range_with_len 0 n) in
    let here : get_or (range_with_len 0 n) i 0 ≡ i = get_or-range_with_len 0 n i 0 h ∙ zero-add i in
    false_from_ne_true (test i) (λ met. false≢true (sym none ∙ list_any_at test (range_with_len 0 n) i 0 within (ap test here ∙ met)))

-- what a header that is not reserved holds
pub record IsPlainHead (b : List ℕ) (i : ℕ) : Type 0 where
  pub direction : byte b (segment_offset i) ≤ 1
  pub second : byte b (segment_offset i + 2) ≡ 0
  pub third : byte b (segment_offset i + 3) ≡ 0

pub plain_head : (b : List ℕ) (i : ℕ) → IsSound b → i < byte b 6 → IsPlainHead b i
plain_head b i s h =
    let parts = or_parts _ _ (no_segment_meets (is_reserved b) b i s.reserved h) in
    let zeros = or_parts _ _ parts.1 in
    record {
      direction = ltb-false _ _ parts.0;
      second = eqb-true _ _ (not-false _ zeros.0);
      third = eqb-true _ _ (not-false _ zeros.1);
    }

direction_byte : (n : ℕ) → n ≤ 1 → (if n == 1 then 1 else 0) ≡ n
direction_byte zero h = refl
direction_byte (suc zero) h = refl
direction_byte (suc (suc n)) h = absurd (omega arith)

pub segment_bytes-at : (b : List ℕ) (i : ℕ) → IsBytes b → IsSound b → i < byte b 6 → segment_bytes (segment_at b i) ≡ piece b (segment_offset i) 8
unfolding segment_bytes segment_at
segment_bytes-at b i bytes s h =
    let at = segment_offset i in
    let p = plain_head b i s h in
    let there : at + 8 ≤ length b = omega (arith, s.segments_there) in
    let second = sym p.second in
    let third = sym p.third in
    (λ k. direction_byte (byte b at) p.direction k ∷ byte b (at + 1) ∷ second k ∷ third k ∷ u32_bytes-number b (at + 4) bytes (omega arith) k)
    ∙ sym (piece_4 b at 4 (omega arith))

pub hop_bytes-at : (b : List ℕ) (at : ℕ) → IsBytes b → at + 13 ≤ length b → hop_bytes (hop_head_at b at) ≡ piece b at 13
unfolding hop_bytes hop_head_at
hop_bytes-at b at bytes there =
    let third : at + 3 ≡ (at + 1) + 2 = omega arith in
    let fifth : at + 5 ≡ (at + 3) + 2 = omega arith in
    (λ k. byte b at ∷ (u16_bytes-number b (at + 1) bytes (omega arith) k ++ (u16_bytes-number b (at + 3) bytes (omega arith) k ++ piece b (at + 5) 8)))
    ∙ (λ k. byte b at ∷ (piece b (at + 1) 2 ++ (piece b (at + 3) 2 ++ piece b (fifth k) 8)))
    ∙ ap (λ xs. byte b at ∷ (piece b (at + 1) 2 ++ xs)) (sym (piece-add b (at + 3) 2 8))
    ∙ (λ k. byte b at ∷ (piece b (at + 1) 2 ++ piece b (third k) 10))
    ∙ ap (λ xs. byte b at ∷ xs) (sym (piece-add b (at + 1) 2 10))
    ∙ sym (piece-suc b at 12 (omega arith))

size_bytes-parse : (b : List ℕ) → IsBytes b → IsSound b → 40 ≤ length b → size_bytes (parse b) ≡ piece b 0 8
unfolding size_bytes parse
size_bytes-parse b bytes s long =
    let header : u16_bytes (header_len (parse b)) ≡ piece b 2 2 = ap u16_bytes (header_len_parse b ∙ sym s.header) ∙ u16_bytes-number b 2 bytes (omega arith) in
    let payload : u16_bytes (length (parse b).payload) ≡ piece b 4 2 = ap u16_bytes (payload_parse b (number w16 b 4) s.whole) ∙ u16_bytes-number b 4 bytes (omega arith) in
    let flags = sym s.flags in
    (λ k. byte b 0 ∷ flags k ∷ (header k ++ (payload k ++ segments_parse b k ∷ byte b 7 ∷ [])))
    ∙ ap (λ xs. byte b 0 ∷ byte b 1 ∷ (piece b 2 2 ++ (piece b 4 2 ++ xs))) (sym (piece_2 b 6 0 (omega arith)))
    ∙ ap (λ xs. byte b 0 ∷ byte b 1 ∷ (piece b 2 2 ++ xs)) (sym (piece-add b 4 2 2))
    ∙ ap (λ xs. byte b 0 ∷ byte b 1 ∷ xs) (sym (piece-add b 2 2 4))
    ∙ sym (piece_2 b 0 6 (omega arith))

end_bytes-parse : (b : List ℕ) → IsBytes b → 40 ≤ length b → end_bytes (parse b) ≡ piece b 8 32
unfolding end_bytes parse
end_bytes-parse b bytes long =
    (λ k. u64_bytes-number b 8 bytes (omega arith) k ++ (u64_bytes-number b 16 bytes (omega arith) k ++ (u32_bytes-number b 24 bytes (omega arith) k ++ (u32_bytes-number b 28 bytes (omega arith) k ++ u64_bytes-number b 32 bytes (omega arith) k))))
    ∙ ap (λ xs. piece b 8 8 ++ (piece b 16 8 ++ (piece b 24 4 ++ xs))) (sym (piece-add b 28 4 8))
    ∙ ap (λ xs. piece b 8 8 ++ (piece b 16 8 ++ xs)) (sym (piece-add b 24 4 12))
    ∙ ap (λ xs. piece b 8 8 ++ xs) (sym (piece-add b 16 8 16))
    ∙ sym (piece-add b 8 8 24)

pub segments_spelled : (b : List ℕ) → IsBytes b → IsSound b → flat_map segment_bytes (segments_in b) ≡ piece b 40 (8 * byte b 6)
unfolding segments_in
segments_spelled b bytes s =
    flat_map-map segment_bytes (segment_at b) (range_with_len 0 (byte b 6))
    ∙ rows b (λ i. segment_bytes (segment_at b i)) 40 8 (byte b 6) (λ i h. segment_bytes-at b i bytes s h)

pub zip-maps : {X Y Z : Type 0} (f : X → Y) (g : X → Z) (xs : List X) → zip (map f xs) (map g xs) ≡ map (λ x. (f x, g x)) xs
zip-maps f g [] = refl
zip-maps f g (x ∷ xs) = ap (λ ys. (f x, g x) ∷ ys) (zip-maps f g xs)

-- a hop with its field is the hop's row
hop_row : (b : List ℕ) (j : ℕ) → IsBytes b → IsSound b → j < hops_in b → hop_with_field (hop_at b j, field_at b j) ≡ piece b (hop_offset b j) (hop_len b)
unfolding hop_with_field
hop_row b j bytes s h =
    ap (λ xs. xs ++ field_at b j) (hop_bytes-at b (hop_offset b j) bytes (omega (arith, hop_there b j s h)))
    ∙ sym (piece-add b (hop_offset b j) 13 (width_of (byte b 0)))

hop_rows : (b : List ℕ) → IsBytes b → IsSound b → (j : ℕ) → j < hops_in b → hop_with_field (hop_at b j, field_at b j) ≡ piece b (segment_offset (byte b 6) + hop_len b * j) (hop_len b)
unfolding hop_offset
hop_rows b bytes s j h = hop_row b j bytes s h

hops_spelled : (b : List ℕ) → IsBytes b → IsSound b → flat_map hop_with_field (zip (parse b).route.hops (parse b).fields) ≡ piece b (segment_offset (byte b 6)) (hop_len b * hops_in b)
unfolding parse route_in
hops_spelled b bytes s =
    let all = range_with_len 0 (hops_in b) in
    ap (flat_map hop_with_field) (zip-maps (hop_at b) (field_at b) all)
    ∙ flat_map-map hop_with_field (λ j. (hop_at b j, field_at b j)) all
    ∙ rows b (λ j. hop_with_field (hop_at b j, field_at b j)) (segment_offset (byte b 6)) (hop_len b) (hops_in b) (hop_rows b bytes s)

either_way : (t : Bool) (b : List ℕ) (at : ℕ) (zeros : List ℕ) → (if t then (if t then piece b at 16 else zeros) else []) ≡ piece b at (if t then 16 else 0)
either_way true b at zeros = refl
either_way false b at zeros = refl

dest_bytes-parse : (b : List ℕ) → dest_bytes (parse b) ≡ piece b (dest_offset b) (dest_len (byte b 0))
unfolding dest_bytes parse dest_field_in dest_len
dest_bytes-parse b = either_way (is_tagged (byte b 0)) b (dest_offset b) _

-- sound bytes are the spelling of what they say
pub spelling-parse : (b : List ℕ) → IsBytes b → IsSound b → spelling (parse b) ≡ b
unfolding spelling parse route_in header_len_in hop_offset
spelling-parse b bytes s =
    let n = byte b 6 in
    let long : 40 ≤ length b = omega (arith, s.segments_there, s.some_segment) in
    (λ k. size_bytes-parse b bytes s long k ++ (end_bytes-parse b bytes long k ++ (segments_spelled b bytes s k ++ (hops_spelled b bytes s k ++ (dest_bytes-parse b k ++ drop (header_len_in b) b)))))
    ∙ ap (λ xs. piece b 0 8 ++ (piece b 8 32 ++ (piece b 40 (8 * n) ++ (piece b (segment_offset n) (hop_len b * hops_in b) ++ xs)))) (sym (drop-piece b (dest_offset b) (dest_len (byte b 0))))
    ∙ ap (λ xs. piece b 0 8 ++ (piece b 8 32 ++ (piece b 40 (8 * n) ++ xs))) (sym (drop-piece b (segment_offset n) (hop_len b * hops_in b)))
    ∙ ap (λ xs. piece b 0 8 ++ (piece b 8 32 ++ xs)) (sym (drop-piece b 40 (8 * n)))
    ∙ ap (λ xs. piece b 0 8 ++ xs) (sym (drop-piece b 8 32))
    ∙ sym (drop-piece b 0 8)

pub path_bytes-parse : (b : List ℕ) → path_bytes (route_in b) ≡ length (segments_in b) ∷ (flat_map segment_bytes (segments_in b) ++ flat_map (λ j. hop_bytes (hop_at b j)) (range_with_len 0 (hops_in b)))
unfolding path_bytes route_in
path_bytes-parse b = ap (λ xs. length (segments_in b) ∷ (flat_map segment_bytes (segments_in b) ++ xs)) (flat_map-map hop_bytes (hop_at b) (range_with_len 0 (hops_in b)))
