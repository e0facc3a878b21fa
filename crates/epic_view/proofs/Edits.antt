-- The edits of a packet's bytes: another field, another destination field, some hops on.
use Rattle.std.proofs.Common.{◌≡◌, ℕ, ◌+◌, ◌-◌, ◌<◌, ◌≤◌, true, List, [], ◌++◌, length, take, drop, get_or, set, map, replicate, refl, ap, sym, ◌∙◌, subst, inl, inr, ⊎_elim, arith, zero-add, if◌then◌else◌}
use Rattle.std.specs.Prelude.{◌≢◌}
use Rattle.std.specs.List.{range_with_len}
use Rattle.std.specs.Int.{w16}
use Rattle.std.proofs.Math.Nat.{mul-le-mul_left}
use Rattle.std.proofs.lemmas.Bool.{cases_lt, cases_eq, cond-true}
use Rattle.std.proofs.lemmas.List.{length-append, length-take-le, length-drop, length-set, get_or_append_left, get_or-append_right, get_or-take, get_or-drop, get_or-set_same, get_or-set_other, take_at, drop_at}
use Rattle.std.proofs.lemmas.List.FromFn.{fill_by_all, length-map-range_with_len, get_or-map-range_with_len}
use Rattle.epic_num.specs.Levels.{width_of, is_tagged}
use Rattle.epic_layout.specs.Pieces.{byte, piece}
use Rattle.epic_layout.specs.Contents.{with_field, with_dest_field, segment_offset, dest_len, header_len, shape}
use Rattle.epic_layout.specs.Layout.{parse, hops_in, hop_len, hop_offset, hop_head_at, field_offset, field_at, dest_offset, dest_field_in, header_len_in}
use Rattle.epic_layout.specs.Sound.{IsSound}
use Rattle.epic_layout.proofs.Ranges.{map_range_same}
use Rattle.epic_layout.proofs.Offsets.{hop_within, hop_there}
use Rattle.epic_view.specs.declared.frame.Frame.{Frame}
use Rattle.epic_view.specs.View.{IsView}
use Rattle.epic_view.specs.Pieces.{with_piece}
use Rattle.epic_view.proofs.Edited.{SameOutside, IsOutside, EditsBody, piece_outside, byte_outside, number_outside, drop_outside, sound_kept, parse_edited, first_same, count_same, hops_same, header_len_same}

-- a view stays one after an edit that keeps the sizes
pub view_kept : (b c : List ℕ) (at w : ℕ) (frame : Frame) → IsView b frame → EditsBody b c at w → byte c 7 ≤ hops_in b → shape (parse c) ≡ shape (parse b) → IsView c frame
view_kept b c at w frame v e current sizes = record {
  sound = sound_kept b c at w e current;
  shape_is = v.shape_is ∙ sym sizes;
  segments_is = v.segments_is ∙ sym (count_same b c at w e);
  hops_is = v.hops_is ∙ sym (hops_same b c at w e);
  header_is = v.header_is ∙ sym (header_len_same b c at w e);
  hops_at_is = v.hops_at_is ∙ ap segment_offset (sym (count_same b c at w e));
  hop_len_is = v.hop_len_is ∙ ap (λ f. 13 + width_of f) (sym (first_same b c at w e));
}

pub outside-set : (b : List ℕ) (at x : ℕ) → at < length b → SameOutside b (set b at x) at 1
outside-set b at x h = record {
  same_length = length-set b at x;
  below = λ y l. get_or-set_other b at y x 0 (λ e. omega (arith, e, l));
  above = λ y l. get_or-set_other b at y x 0 (λ e. omega (arith, e, l));
}

-- ---- a piece replaced

pub outside-with_piece : (b : List ℕ) (at : ℕ) (v : List ℕ) → at + length v ≤ length b → SameOutside b (with_piece b at v) at (length v)
unfolding with_piece
outside-with_piece b at v there =
    let front = length-take-le at b (omega (arith, there)) in
    let w = length v in
    let rest = drop (at + w) b in
    record {
      same_length = length-append (take at b) (v ++ rest) ∙ omega (arith, front, length-append v rest, length-drop (at + w) b, there);
      below = λ x l. get_or_append_left (take at b) (v ++ rest) 0 x (omega (arith, front, l)) ∙ get_or-take at b x 0 l;
      above = λ x l.
          let here : at + w + (x - at - w) ≡ x = omega (arith, l) in
          get_or-append_right (take at b) (v ++ rest) at x 0 front (omega (arith, l))
          ∙ get_or-append_right v rest w (x - at) 0 refl (omega (arith, l))
          ∙ get_or-drop (at + w) b (x - at - w) 0
          ∙ ap (byte b) here;
    }

pub piece-with_piece : (b : List ℕ) (at : ℕ) (v : List ℕ) → at + length v ≤ length b → piece (with_piece b at v) at (length v) ≡ v
unfolding with_piece
piece-with_piece b at v there =
    ap (take (length v)) (drop_at (take at b) (v ++ drop (at + length v) b) at (length-take-le at b (omega (arith, there))))
    ∙ take_at v (drop (at + length v) b) (length v) refl

-- ---- the parts of hops

outside_part : (at w x n y m : ℕ) → IsOutside at w x n → x ≤ y → y + m ≤ x + n → IsOutside at w y m
outside_part at w x n y m out low high = ⊎_elim (λ o. inl (omega (arith, o, high))) (λ o. inr (omega (arith, o, low))) out

hop_outside : (b c : List ℕ) (at w off : ℕ) → SameOutside b c at w → IsOutside at w off 13 → off + 13 ≤ length b → hop_head_at c off ≡ hop_head_at b off
unfolding hop_head_at
hop_outside b c at w off s out there =
    let part = λ (y m : ℕ) (low : off ≤ y) (high : y + m ≤ off + 13). outside_part at w off 13 y m out low high in
    let exp = byte_outside b c at w off s (part off 1 (omega arith) (omega arith)) in
    let inn = number_outside w16 b c at w (off + 1) s (part (off + 1) 2 (omega arith) (omega arith)) (omega (arith, there)) in
    let out' = number_outside w16 b c at w (off + 3) s (part (off + 3) 2 (omega arith) (omega arith)) (omega (arith, there)) in
    let link = piece_outside b c at w (off + 5) 8 s (part (off + 5) 8 (omega arith) (omega arith)) (omega (arith, there)) in
    λ i. record { exp = exp i; inn = inn i; out = out' i; link = link i }

-- hops begin after the headers, and each ends before the next begins
hops_after : (b : List ℕ) (k : ℕ) → segment_offset (byte b 6) ≤ hop_offset b k
unfolding hop_offset
hops_after b k = omega arith

hops_ordered : (b : List ℕ) (j k : ℕ) → j < k → hop_offset b j + hop_len b ≤ hop_offset b k
unfolding hop_offset
hops_ordered b j k h =
    let more : j + 1 ≤ k = omega (arith, h) in
    omega (arith, mul-le-mul_left (hop_len b) more)

hops_before : (b : List ℕ) (j k : ℕ) → j ≤ k → hop_offset b j ≤ hop_offset b k
unfolding hop_offset
hops_before b j k h = omega (arith, mul-le-mul_left (hop_len b) h)

dest_after : (b : List ℕ) → dest_offset b ≤ header_len_in b
unfolding header_len_in
dest_after b = omega arith

dest_kept : (b c : List ℕ) (at w : ℕ) → SameOutside b c at w → at + w ≤ dest_offset b → (if is_tagged (byte b 0) then piece c (dest_offset b) 16 else replicate 16 0) ≡ dest_field_in b
unfolding dest_field_in
dest_kept b c at w s after = ap (λ xs. if is_tagged (byte b 0) then take 16 xs else replicate 16 0) (drop_outside b c at w (dest_offset b) s after)

-- ---- another field of a hop

-- the field of hop j touches the first 13 bytes of none
field_apart : (b : List ℕ) (j k : ℕ) → IsOutside (field_offset b j) (width_of (byte b 0)) (hop_offset b k) 13
field_apart b j k =
    ⊎_elim (λ l. inr (omega (arith, hops_ordered b j k l)))
    (λ g. inl (omega (arith, hops_before b k j g)))
    (cases_lt j k)

where_fields_lie : (b : List ℕ) (j k : ℕ) → k ≢ j → IsOutside (field_offset b j) (width_of (byte b 0)) (field_offset b k) (width_of (byte b 0))
where_fields_lie b j k ne =
    ⊎_elim (λ l. inr (omega (arith, hops_ordered b j k l)))
    (λ g. inl (omega (arith, hops_ordered b k j (omega (arith, ne, g)))))
    (cases_lt j k)

fields_edited : (b : List ℕ) (j : ℕ) (v : List ℕ) → j < hops_in b → length v ≡ width_of (byte b 0) → field_offset b j + length v ≤ length b
    → ((k : ℕ) → k < hops_in b → field_offset b k + width_of (byte b 0) ≤ length b)
    → map (λ k. piece (with_piece b (field_offset b j) v) (field_offset b k) (width_of (byte b 0))) (range_with_len 0 (hops_in b)) ≡ set (map (field_at b) (range_with_len 0 (hops_in b))) j v
fields_edited b j v h len there each =
    let n = hops_in b in
    let w = width_of (byte b 0) in
    let at = field_offset b j in
    let c = with_piece b at v in
    let old = map (field_at b) (range_with_len 0 n) in
    let same : SameOutside b c at w = subst (SameOutside b c at) len (outside-with_piece b at v there) in
    let size = length-map-range_with_len (field_at b) 0 n in
    sym (fill_by_all (λ k. piece c (field_offset b k) w) (set old j v) n [] (length-set old j v ∙ size)
    (λ k l. ⊎_elim
    (λ e. ap (λ i. get_or (set old j v) i []) e ∙ get_or-set_same old j v [] (omega (arith, size, h)) ∙ sym (piece-with_piece b at v there) ∙ ap (piece c at) len ∙ ap (λ i. piece c (field_offset b i) w) (sym e))
    (λ ne. get_or-set_other old j k v [] ne ∙ get_or-map-range_with_len (field_at b) 0 n k k [] l (zero-add k) ∙ sym (piece_outside b c at w (field_offset b k) w same (where_fields_lie b j k ne) (each k l)))
    (cases_eq k j)))

pub field_body : (b : List ℕ) (j : ℕ) (v : List ℕ) → IsSound b → j < hops_in b → length v ≡ width_of (byte b 0) → EditsBody b (with_piece b (field_offset b j) v) (field_offset b j) (width_of (byte b 0))
field_body b j v s h len =
    let at = field_offset b j in
    let there : at + length v ≤ length b = omega (arith, hop_there b j s h, len) in
    record {
      sound = s;
      same = subst (SameOutside b (with_piece b at v) at) len (outside-with_piece b at v there);
      place = inr (omega (arith, hops_after b j));
    }

pub field_current : (b : List ℕ) (j : ℕ) (v : List ℕ) → IsSound b → j < hops_in b → length v ≡ width_of (byte b 0) → byte (with_piece b (field_offset b j) v) 7 ≡ byte b 7
field_current b j v s h len = byte_outside b _ _ _ 7 (field_body b j v s h len).same (inl (omega (arith, hops_after b j)))

pub field_edited : (b : List ℕ) (j : ℕ) (v : List ℕ) → IsSound b → j < hops_in b → length v ≡ width_of (byte b 0) → parse (with_piece b (field_offset b j) v) ≡ with_field (parse b) j v
unfolding parse with_field
field_edited b j v s h len =
    let at = field_offset b j in
    let w = width_of (byte b 0) in
    let c = with_piece b at v in
    let e = field_body b j v s h len in
    let after : at + w ≤ dest_offset b = omega (arith, hop_within b j h) in
    let each = λ (k : ℕ) (l : k < hops_in b). hop_there b k s l in
    parse_edited b c at w (byte b 7) (set (map (field_at b) (range_with_len 0 (hops_in b))) j v) (dest_field_in b) (drop (header_len_in b) b) e (record {
      current = field_current b j v s h len;
      hops = λ k l. hop_outside b c at w (hop_offset b k) e.same (field_apart b j k) (omega (arith, each k l));
      fields = fields_edited b j v h len (omega (arith, each j h, len)) (λ k l. omega (arith, each k l));
      dest = dest_kept b c at w e.same after;
      payload = drop_outside b c at w (header_len_in b) e.same (omega (arith, after, dest_after b));
    })

-- the sizes are those of before
pub field_sizes : (b : List ℕ) (j : ℕ) (v : List ℕ) → IsSound b → j < hops_in b → length v ≡ width_of (byte b 0) → shape (parse (with_piece b (field_offset b j) v)) ≡ shape (parse b)
unfolding shape header_len with_field
field_sizes b j v s h len = ap shape (field_edited b j v s h len)

-- ---- another destination field

pub dest_body : (b v : List ℕ) → IsSound b → is_tagged (byte b 0) ≡ true → length v ≡ 16 → EditsBody b (with_piece b (dest_offset b) v) (dest_offset b) 16
unfolding header_len_in dest_len
dest_body b v s t len =
    let there : dest_offset b + length v ≤ length b = omega (arith, s.header_there, cond-true {A = ℕ} (is_tagged (byte b 0)) 16 0 t, len) in
    record {
      sound = s;
      same = subst (SameOutside b (with_piece b (dest_offset b) v) (dest_offset b)) len (outside-with_piece b (dest_offset b) v there);
      place = inr (hops_after b (hops_in b));
    }

dest_there : (b v : List ℕ) → IsSound b → is_tagged (byte b 0) ≡ true → length v ≡ 16 → dest_offset b + length v ≡ header_len_in b
unfolding header_len_in dest_len
dest_there b v s t len = omega (arith, cond-true {A = ℕ} (is_tagged (byte b 0)) 16 0 t, len)

pub dest_current : (b v : List ℕ) → IsSound b → is_tagged (byte b 0) ≡ true → length v ≡ 16 → byte (with_piece b (dest_offset b) v) 7 ≡ byte b 7
dest_current b v s t len = byte_outside b _ _ _ 7 (dest_body b v s t len).same (inl (omega (arith, hops_after b (hops_in b))))

pub dest_edited : (b v : List ℕ) → IsSound b → is_tagged (byte b 0) ≡ true → length v ≡ 16 → parse (with_piece b (dest_offset b) v) ≡ with_dest_field (parse b) v
unfolding parse with_dest_field
dest_edited b v s t len =
    let at = dest_offset b in
    let w = width_of (byte b 0) in
    let c = with_piece b at v in
    let e = dest_body b v s t len in
    let end = dest_there b v s t len in
    parse_edited b c at 16 (byte b 7) (map (field_at b) (range_with_len 0 (hops_in b))) v (drop (header_len_in b) b) e (record {
      current = dest_current b v s t len;
      hops = λ k l. hop_outside b c at 16 (hop_offset b k) e.same (inl (omega (arith, hop_within b k l))) (omega (arith, hop_there b k s l));
      fields = map_range_same [] (λ k. piece c (field_offset b k) w) (field_at b) (hops_in b) (λ k l. piece_outside b c at 16 (field_offset b k) w e.same (inl (omega (arith, hop_within b k l))) (omega (arith, hop_there b k s l)));
      dest = cond-true _ _ _ t ∙ ap (piece c at) (sym len) ∙ piece-with_piece b at v (omega (arith, end, s.header_there));
      payload = drop_outside b c at 16 (header_len_in b) e.same (omega (arith, end, len));
    })

pub dest_sizes : (b v : List ℕ) → IsSound b → is_tagged (byte b 0) ≡ true → length v ≡ 16 → shape (parse (with_piece b (dest_offset b) v)) ≡ shape (parse b)
unfolding shape header_len with_dest_field
dest_sizes b v s t len = ap shape (dest_edited b v s t len)

-- ---- some hops on

pub advance_body : (b : List ℕ) (m : ℕ) → IsSound b → EditsBody b (set b 7 m) 7 1
advance_body b m s = record {
  sound = s;
  same = outside-set b 7 m (omega (arith, s.segments_there));
  place = inl (refl, refl);
}

pub advance_current : (b : List ℕ) (m : ℕ) → IsSound b → byte (set b 7 m) 7 ≡ m
advance_current b m s = get_or-set_same b 7 m 0 (omega (arith, s.segments_there))

pub advance_edited : (b : List ℕ) (m : ℕ) → IsSound b → parse (set b 7 m) ≡ record (parse b) { current = m }
unfolding parse
advance_edited b m s =
    let w = width_of (byte b 0) in
    let c = set b 7 m in
    let e = advance_body b m s in
    parse_edited b c 7 1 m (map (field_at b) (range_with_len 0 (hops_in b))) (dest_field_in b) (drop (header_len_in b) b) e (record {
      current = advance_current b m s;
      hops = λ k l. hop_outside b c 7 1 (hop_offset b k) e.same (inr (omega (arith, hops_after b k))) (omega (arith, hop_there b k s l));
      fields = map_range_same [] (λ k. piece c (field_offset b k) w) (field_at b) (hops_in b) (λ k l. piece_outside b c 7 1 (field_offset b k) w e.same (inr (omega (arith, hops_after b k))) (omega (arith, hop_there b k s l)));
      dest = dest_kept b c 7 1 e.same (omega (arith, hops_after b (hops_in b)));
      payload = drop_outside b c 7 1 (header_len_in b) e.same (omega (arith, hops_after b (hops_in b), dest_after b));
    })

pub advance_sizes : (b : List ℕ) (m : ℕ) → IsSound b → shape (parse (set b 7 m)) ≡ shape (parse b)
unfolding shape header_len
advance_sizes b m s = ap shape (advance_edited b m s)

-- ---- each edit as a whole

pub field_whole : (b c : List ℕ) (frame : Frame) (j : ℕ) (v : List ℕ) → IsView b frame → j < hops_in b → length v ≡ width_of (byte b 0) → c ≡ with_piece b (field_offset b j) v → IsView c frame × (parse c ≡ with_field (parse b) j v)
field_whole b c frame j v view h len e =
    let s = view.sound in
    let new = with_piece b (field_offset b j) v in
    let current : byte new 7 ≤ hops_in b = omega (arith, field_current b j v s h len, s.current) in
    subst (λ x. IsView x frame × (parse x ≡ with_field (parse b) j v)) (sym e)
    (view_kept b new _ _ frame view (field_body b j v s h len) current (field_sizes b j v s h len), field_edited b j v s h len)

pub dest_whole : (b c : List ℕ) (frame : Frame) (v : List ℕ) → IsView b frame → is_tagged (byte b 0) ≡ true → length v ≡ 16 → c ≡ with_piece b (dest_offset b) v → IsView c frame × (parse c ≡ with_dest_field (parse b) v)
dest_whole b c frame v view t len e =
    let s = view.sound in
    let new = with_piece b (dest_offset b) v in
    let current : byte new 7 ≤ hops_in b = omega (arith, dest_current b v s t len, s.current) in
    subst (λ x. IsView x frame × (parse x ≡ with_dest_field (parse b) v)) (sym e)
    (view_kept b new _ _ frame view (dest_body b v s t len) current (dest_sizes b v s t len), dest_edited b v s t len)
