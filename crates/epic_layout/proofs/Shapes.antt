-- The sizes of the packet that bytes say.
use Rattle.std.proofs.Common.{◌≡◌, ℕ, ◌+◌, ◌*◌, List, length, None, Ok, ap, sym, ◌∙◌, arith}
use Rattle.std.specs.Int.{w16}
use Rattle.std.proofs.lemmas.List.{length-drop}
use Rattle.std.proofs.lemmas.List.FromFn.{length-map-range_with_len}
use Rattle.epic_num.specs.Levels.{version_of, width_of, level_of, is_first_byte}
use Rattle.epic_num.specs.Tables.{unless}
use Rattle.epic_layout.specs.declared.shape.Shape.{Shape}
use Rattle.epic_layout.specs.Pieces.{byte, number}
use Rattle.epic_layout.specs.Contents.{hop_count, header_len, shape, segment_offset, dest_len}
use Rattle.epic_layout.specs.Layout.{parse, route_in, segments_in, segment_at, hops_in, hop_at, header_len_in, hop_offset, fault, checked}
use Rattle.epic_layout.proofs.Soundness.{sound}

pub segments_parse : (b : List ℕ) → length (parse b).route.segments ≡ byte b 6
unfolding parse route_in segments_in
segments_parse b = length-map-range_with_len (segment_at b) 0 (byte b 6)

pub hop_count_parse : (b : List ℕ) → hop_count (parse b) ≡ hops_in b
unfolding parse route_in
hop_count_parse b = length-map-range_with_len (hop_at b) 0 (hops_in b)

pub header_len_parse : (b : List ℕ) → header_len (parse b) ≡ header_len_in b
unfolding parse header_len header_len_in hop_offset
header_len_parse b = ap (λ n. segment_offset n + (13 + width_of (byte b 0)) * hop_count (parse b) + dest_len (byte b 0)) (segments_parse b) ∙ ap (λ n. segment_offset (byte b 6) + (13 + width_of (byte b 0)) * n + dest_len (byte b 0)) (hop_count_parse b)

pub payload_parse : (b : List ℕ) (n : ℕ) → header_len_in b + n ≡ length b → length (parse b).payload ≡ n
unfolding parse
payload_parse b n h = length-drop (header_len_in b) b ∙ omega arith

pub shape_parse : (b : List ℕ) (n : ℕ) → header_len_in b + n ≡ length b → shape (parse b) ≡ record { version = version_of (byte b 0); level = level_of (byte b 0); segments = byte b 6; hops = hops_in b; header = header_len_in b; payload = n }
unfolding shape parse
shape_parse b n h = λ i. record { version = version_of (byte b 0); level = level_of (byte b 0); segments = segments_parse b i; hops = hop_count_parse b i; header = header_len_parse b i; payload = payload_parse b n h i }

pub shape_sizes : (b : List ℕ) (s : Shape) → s ≡ shape (parse b) → (s.segments ≡ byte b 6) × (s.hops ≡ hops_in b) × (s.header ≡ header_len_in b)
unfolding shape
shape_sizes b s e = (ap (λ t. t.segments) e ∙ segments_parse b, ap (λ t. t.hops) e ∙ hop_count_parse b, ap (λ t. t.header) e ∙ header_len_parse b)

pub shape_header : (b : List ℕ) (s : Shape) → s ≡ shape (parse b) → s.header ≡ header_len_in b
unfolding shape
shape_header b s e = ap (λ t. t.header) e ∙ header_len_parse b

pub shape_version : (b : List ℕ) (s : Shape) → s ≡ shape (parse b) → s.version ≡ version_of (byte b 0)
unfolding shape parse
shape_version b s e = ap (λ t. t.version) e

pub shape_level : (b : List ℕ) (s : Shape) → s ≡ shape (parse b) → s.level ≡ level_of (byte b 0)
unfolding shape parse
shape_level b s e = ap (λ t. t.level) e

pub ruleset sizes = (shape_header, shape_version, shape_level)

-- what the check answers of bytes without a fault, read from their header
pub shape_known : (b : List ℕ) → fault is_first_byte b ≡ None
    → Ok (record { version = version_of (byte b 0); level = level_of (byte b 0); segments = byte b 6; hops = hops_in b; header = number w16 b 2; payload = number w16 b 4 }) ≡ checked b
shape_known b e =
    let s = sound b e in
    (λ i. Ok (record { version = version_of (byte b 0); level = level_of (byte b 0); segments = byte b 6; hops = hops_in b; header = s.header i; payload = number w16 b 4 }))
    ∙ ap Ok (sym (shape_parse b (number w16 b 4) s.whole))
    ∙ sym (ap (λ f. unless f (shape (parse b))) e)

pub ruleset sizes_known = (sound, shape_known)
