-- Hexadecimal digits need no escape in a string of TOML.
use Rattle.std.proofs.Common.{◌≡◌, ℕ, zero, suc, ◌+◌, ◌/◌, ◌%◌, ◌<◌, ◌==◌, Bool, true, false, not, ◌&&◌, ◌||◌, cond, List, [], ◌∷◌, ◌++◌, map, get_or, slice_index, refl, ap, sym, ◌∙◌, zero-add, arith}
use Rattle.std.specs.List.{list_all, list_any, range_with_len}
use Rattle.std.proofs.lemmas.Bool.{and_parts}
use Rattle.std.proofs.lemmas.List.FromFn.{get_or-map-range_with_len}
use Rattle.hex.specs.Hex.{IsBytes, encode_lower, encode_with, lower_digits}
use Rattle.toml_parser.specs.Lexical.{backslash, is_non_eol, line_feed, quote}
use Rattle.toml_writer.specs.Text.{basic, encoded, encoding_of, escape_text, escaped, has, is_control, needs_escape, quotes_after, string_text}

-- a byte that a basic string holds as it is
abbrev pub is_plain : ℕ → Bool
is_plain c =
    (not (is_control c) && not (c == backslash))
    && ((not (c == quote) && not (c == line_feed)) && not (needs_escape false 0 c))

record IsPlain (c : ℕ) : Type 0 where
  control : is_control c ≡ false
  slash : (c == backslash) ≡ false
  quoted : (c == quote) ≡ false
  feed : (c == line_feed) ≡ false
  kept : needs_escape false 0 c ≡ false

not_so : (b : Bool) → not b ≡ true → b ≡ false
not_so false is = refl
not_so true is = sym is

plain_parts : (c : ℕ) → is_plain c ≡ true → IsPlain c
plain_parts c is =
    let (first, second) = and_parts (not (is_control c) && not (c == backslash)) ((not (c == quote) && not (c == line_feed)) && not (needs_escape false 0 c)) is in
    let (control, slash) = and_parts (not (is_control c)) (not (c == backslash)) first in
    let (third, kept) = and_parts (not (c == quote) && not (c == line_feed)) (not (needs_escape false 0 c)) second in
    let (quoted, feed) = and_parts (not (c == quote)) (not (c == line_feed)) third in
    record {
      control = not_so (is_control c) control;
      slash = not_so (c == backslash) slash;
      quoted = not_so (c == quote) quoted;
      feed = not_so (c == line_feed) feed;
      kept = not_so (needs_escape false 0 c) kept;
    }

-- ---- plain strings

none_any : (p : ℕ → Bool) → ((c : ℕ) → is_plain c ≡ true → p c ≡ false) → (s : List ℕ) → list_all is_plain s ≡ true → list_any p s ≡ false
none_any p each [] is = refl
none_any p each (c ∷ s) is =
    let (here, more) = and_parts (is_plain c) (list_all is_plain s) is in
    rw (each c here, none_any p each s more) refl

stays : (s : List ℕ) → list_all is_plain s ≡ true → escaped false 0 s ≡ s
unfolding escaped quotes_after
stays [] is = refl
stays (c ∷ s) is =
    let (here, more) = and_parts (is_plain c) (list_all is_plain s) is in
    let plain = plain_parts c here in
    rw (plain.kept, plain.quoted) (ap (λ cs. c ∷ cs) (stays s more))

pub plain_text : (s : List ℕ) → list_all is_plain s ≡ true → string_text s ≡ quote ∷ s ++ quote ∷ []
unfolding string_text encoding_of
plain_text s is =
    let control = none_any is_control (λ c h. (plain_parts c h).control) s is in
    let slash = none_any (λ x. x == backslash) (λ c h. (plain_parts c h).slash) s is in
    let quoted = none_any (λ x. x == quote) (λ c h. (plain_parts c h).quoted) s is in
    let feed = none_any (λ x. x == line_feed) (λ c h. (plain_parts c h).feed) s is in
    rw (control, slash, quoted, feed) (ap (λ cs. quote ∷ cs ++ quote ∷ []) (stays s is))

-- ---- hexadecimal digits

digit_plain : (n : ℕ) → n < 16 → is_plain (slice_index lower_digits n) ≡ true
unfolding needs_escape
digit_plain n low =
    sym (get_or-map-range_with_len (λ x. is_plain (slice_index lower_digits x)) 0 16 n n true low (zero-add n))
    ∙ ap (λ xs. get_or xs n true) all
    ∙ get_or-map-range_with_len (λ x. true) 0 16 n n true low (zero-add n)
  where
    all : map (λ x. is_plain (slice_index lower_digits x)) (range_with_len 0 16) ≡ map (λ x. true) (range_with_len 0 16)
    all = refl

pub hex_plain : (bytes : List ℕ) → IsBytes bytes → list_all is_plain (encode_lower bytes) ≡ true
unfolding encode_with
hex_plain [] are = refl
hex_plain (b ∷ bytes) are =
    rw (digit_plain (b / 16) (let low = are zero in omega (arith, low)), digit_plain (b % 16) (omega arith))
    (hex_plain bytes (λ i. are (suc i)))
