-- The fields of a packet, read from its bytes.
use Rattle.std.proofs.Common.{◌≡◌, ℕ, ◌+◌, ◌-◌, ◌<◌, ◌≤◌, ◌≢◌, Bool, true, false, List, [], ◌∷◌, ◌++◌, length, take, drop, replicate, refl, ap, sym, ◌∙◌, arith, cond}
use Rattle.std.specs.Prelude.{nat_lt}
use Rattle.std.proofs.lemmas.Bool.{cond-true, cond-false}
use Rattle.std.proofs.lemmas.List.{length-drop, length-take-le, drop_more, append-nil, take_at}
use Rattle.epic_num.specs.Levels.{width_of, is_tagged}
use Rattle.epic_layout.specs.Pieces.{byte, piece}
use Rattle.epic_layout.specs.Contents.{as_field, field_bytes, dest_len}
use Rattle.epic_layout.specs.Layout.{hops_in, hop_len, hop_offset, field_offset, field_at, dest_field_in, dest_offset, header_len_in}
use Rattle.epic_layout.specs.Sound.{IsSound}
use Rattle.epic_layout.proofs.Cuts.{length-piece}
use Rattle.epic_layout.proofs.Offsets.{hop_there}

other_width : (t : Bool) → (13 + cond t 3 6 ≡ 16 → ⊥) → ◌≡◌ {A = ℕ} (cond t 3 6) 6
other_width true n = absurd (n refl)
other_width false n = refl

pub width_6 : (b : List ℕ) → hop_len b ≢ 16 → width_of (byte b 0) ≡ 6
unfolding width_of
width_6 b n = other_width (nat_lt (byte b 0) 0xF0) n

-- three bytes of a list, one by one
pub piece_3 : (b : List ℕ) (at : ℕ) → at + 3 ≤ length b → piece b at 3 ≡ byte b at ∷ byte b (at + 1) ∷ byte b (at + 2) ∷ []
piece_3 b at h =
    ap (take 3) (drop_more b at 0 (omega arith))
    ∙ ap (λ xs. byte b at ∷ take 2 xs) (drop_more b (at + 1) 0 (omega arith))
    ∙ ap (λ xs. byte b at ∷ byte b (at + 1) ∷ take 1 xs) (ap (λ n. drop n b) (omega arith) ∙ drop_more b (at + 2) 0 (omega arith))

pub field_3 : (b : List ℕ) (j at : ℕ) → hop_len b ≡ 16 → at ≡ hop_offset b j + 13 → at + 3 ≤ length b → as_field (field_at b j) ≡ record { bytes = byte b at ∷ byte b (at + 1) ∷ byte b (at + 2) ∷ 0 ∷ 0 ∷ 0 ∷ []; width = 3 }
unfolding as_field
field_3 b j at w e h =
    let three : width_of (byte b 0) ≡ 3 = omega (arith, w) in
    let same : field_at b j ≡ byte b at ∷ byte b (at + 1) ∷ byte b (at + 2) ∷ [] = ap (λ n. piece b n (width_of (byte b 0))) (sym e) ∙ ap (piece b at) three ∙ piece_3 b at h in
    ap as_field same

pub field_6 : (b : List ℕ) (j at : ℕ) → hop_len b ≢ 16 → at ≡ hop_offset b j + 13 → at + 6 ≤ length b → as_field (field_at b j) ≡ record { bytes = piece b at 6; width = 6 }
unfolding as_field
field_6 b j at w e h =
    let same : field_at b j ≡ piece b at 6 = ap (λ n. piece b n (width_of (byte b 0))) (sym e) ∙ ap (piece b at) (width_6 b w) in
    let six : length (piece b at 6) ≡ 6 = length-take-le 6 (drop at b) (omega (arith, length-drop at b)) in
    ap as_field same ∙ (λ i. record { bytes = piece b at 6 ++ replicate (6 - six i) 0; width = six i }) ∙ ap (λ v. record { bytes = v; width = 6 }) (append-nil (piece b at 6))

pub header_tagged : (b : List ℕ) → is_tagged (byte b 0) ≡ true → header_len_in b ≡ dest_offset b + 16
unfolding header_len_in dest_len
header_tagged b e = ap (λ n. dest_offset b + n) (cond-true _ 16 0 e)

pub dest_field_tagged : (b : List ℕ) (at : ℕ) → is_tagged (byte b 0) ≡ true → at + 16 ≡ header_len_in b → dest_field_in b ≡ piece b at 16
unfolding dest_field_in
dest_field_tagged b at e h =
    let same : dest_offset b ≡ at = omega (arith, header_tagged b e, h) in
    cond-true _ _ _ e ∙ ap (λ n. piece b n 16) same

pub dest_field_untagged : (b : List ℕ) → is_tagged (byte b 0) ≡ false → dest_field_in b ≡ replicate 16 0
unfolding dest_field_in
dest_field_untagged b e = cond-false _ _ _ e

pub ruleset fields = (field_3, field_6, width_6)

pub ruleset dest_fields = (header_tagged, dest_field_tagged, dest_field_untagged)

-- a field that is read has the bytes that stand there
pub field_bytes-as_field : (v : List ℕ) → field_bytes (as_field v) ≡ v
unfolding as_field
field_bytes-as_field v = take_at v (replicate (6 - length v) 0) (length v) refl

-- and their number is the packet's width
pub width-field_at : (b : List ℕ) (j : ℕ) → IsSound b → j < hops_in b → (as_field (field_at b j)).width ≡ width_of (byte b 0)
unfolding as_field
width-field_at b j s h = length-piece b (field_offset b j) (width_of (byte b 0)) (omega (arith, hop_there b j s h))

pub ruleset field_parts = (field_bytes-as_field, width-field_at)
