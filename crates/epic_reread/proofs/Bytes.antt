-- Bytes, and bodies of hops, by their hexadecimal digits.
use Rattle.std.proofs.Common.{◌≡◌, ℕ, zero, suc, ◌/◌, ◌%◌, ◌<◌, true, cond, List, [], ◌∷◌, ◌++◌, length, map, get_or, slice_index, refl, sym, ap, ◌∙◌, zero-add, arith, codes, Some}
use Rattle.std.specs.Prelude.{option_map, bytes_eq}
use Rattle.std.specs.Int.{byte_at, bytes_high_first}
use Rattle.std.specs.List.{range_with_len}
use Rattle.std.specs.Result.{result_ok}
use Rattle.std.proofs.lemmas.Bool.{false_from_ne_true}
use Rattle.std.proofs.lemmas.List.FromFn.{get_or-map-range_with_len}
use Rattle.std.proofs.lemmas.Nat.{from_be_bytes-to_be_bytes_2, from_be_bytes-to_be_bytes_4}
use Rattle.std.proofs.lemmas.Slice.Eq.{bytes_eq-Decides}
use Rattle.hex.specs.Hex.{IsBytes as AreBytes, decode_of, encode_lower, encode_with, lower_digits}
use Rattle.hex.proofs.HexLemmas.{decode_of-encode_lower, decode_sized-encode_lower, length-encode_with}
use Rattle.epic_num.specs.declared.hop.Body.{Body}
use Rattle.epic_num.specs.BigEndian.{u16_bytes, u32_bytes}
use Rattle.epic_num.specs.Bodies.{body_bytes, IsBody}
use Rattle.epic_layout.specs.Contents.{IsBytes}
use Rattle.epic_text.specs.RunScript.{bytes_of}
use Rattle.epic_record.specs.Words.{body_named, body_of}
use Rattle.epic_reread.proofs.Clean.{above, IsAbove, next_above}

-- ---- digits

digit_above : (n : ℕ) → n < 16 → above 45 (slice_index lower_digits n) ≡ true
digit_above n low =
    sym (get_or-map-range_with_len (λ x. above 45 (slice_index lower_digits x)) 0 16 n n true low (zero-add n))
    ∙ ap (λ xs. get_or xs n true) all
    ∙ get_or-map-range_with_len (λ x. true) 0 16 n n true low (zero-add n)
  where
    all : map (λ x. above 45 (slice_index lower_digits x)) (range_with_len 0 16) ≡ map (λ x. true) (range_with_len 0 16)
    all = refl

digits_above : (bytes : List ℕ) → AreBytes bytes → IsAbove 45 (encode_lower bytes)
unfolding encode_with
digits_above [] are = refl
digits_above (b ∷ bytes) are =
    let low = are zero in
    next_above 45 (slice_index lower_digits (b / 16)) (slice_index lower_digits (b % 16) ∷ encode_lower bytes) (digit_above (b / 16) (omega (arith, low)))
    (next_above 45 (slice_index lower_digits (b % 16)) (encode_lower bytes) (digit_above (b % 16) (omega arith)) (digits_above bytes (λ i. are (suc i))))

-- ---- bytes

pub byte_onto : (b : ℕ) (bytes : List ℕ) → b < 256 → AreBytes bytes → AreBytes (b ∷ bytes)
byte_onto b bytes low are zero = low
byte_onto b bytes low are (suc i) = are i

pub bytes_onto : (xs ys : List ℕ) → AreBytes xs → AreBytes ys → AreBytes (xs ++ ys)
bytes_onto [] ys are more = more
bytes_onto (x ∷ xs) ys are more = byte_onto x (xs ++ ys) (are zero) (bytes_onto xs ys (λ i. are (suc i)) more)

pub are_bytes : (bytes : List ℕ) → IsBytes bytes → AreBytes bytes
are_bytes [] is i = omega arith
are_bytes (b ∷ bytes) is i =
    byte_onto b bytes (is 0 0 (omega arith)) (are_bytes bytes (λ k d l. is (suc k) d (omega (arith, l)))) i

byte_at_is : (k n : ℕ) → byte_at k n < 256
byte_at_is zero n = omega arith
byte_at_is (suc k) n = omega arith

pub high_bytes : (k n : ℕ) → AreBytes (bytes_high_first k n)
high_bytes zero n i = omega arith
high_bytes (suc k) n i = byte_onto (byte_at k n) (bytes_high_first k n) (byte_at_is k n) (high_bytes k n) i

-- two digits are no `-`
no_dash : (bytes : List ℕ) → bytes_eq (encode_lower bytes) (codes "-") ≡ true → ⊥
no_dash bytes e =
    let one = ap length ((bytes_eq-Decides (encode_lower bytes) (codes "-")).0 e) in
    absurd (omega (arith, one, length-encode_with lower_digits bytes))

pub bytes_above : (bytes : List ℕ) → IsBytes bytes → IsAbove 45 (encode_lower bytes)
bytes_above bytes is = digits_above bytes (are_bytes bytes is)

pub bytes_read : (bytes : List ℕ) → IsBytes bytes → bytes_of (encode_lower bytes) ≡ Some bytes
unfolding bytes_of
bytes_read bytes is =
    ap (λ b. cond b (Some []) (result_ok (decode_of (encode_lower bytes))))
    (false_from_ne_true (bytes_eq (encode_lower bytes) (codes "-")) (no_dash bytes))
    ∙ ap result_ok (decode_of-encode_lower bytes (are_bytes bytes is))

-- ---- bodies

pub body_bytes_are : (b : Body) → IsBody b → IsBytes b.link → AreBytes (body_bytes b)
unfolding body_bytes u16_bytes u32_bytes
body_bytes_are b is link =
    let out = u16_bytes b.out ++ b.link in
    let inn = u16_bytes b.inn ++ out in
    let ts = u32_bytes b.ts_path ++ inn in
    byte_onto b.pos (b.exp ∷ ts) (omega (arith, is.pos))
    (byte_onto b.exp ts (omega (arith, is.exp))
    (bytes_onto (u32_bytes b.ts_path) inn (high_bytes 4 b.ts_path)
    (bytes_onto (u16_bytes b.inn) out (high_bytes 2 b.inn)
    (bytes_onto (u16_bytes b.out) b.link (high_bytes 2 b.out) (are_bytes b.link link)))))

length-body_bytes : (b : Body) → IsBody b → length (body_bytes b) ≡ 18
unfolding body_bytes u16_bytes u32_bytes
length-body_bytes b is = omega (arith, is.link)

body_of-body_bytes : (b : Body) → IsBody b → body_of (body_bytes b) ≡ b
unfolding body_bytes body_of u16_bytes u32_bytes
body_of-body_bytes b is = λ i. record {
  pos = b.pos;
  exp = b.exp;
  ts_path = from_be_bytes-to_be_bytes_4 b.ts_path is.ts_path i;
  inn = from_be_bytes-to_be_bytes_2 b.inn is.inn i;
  out = from_be_bytes-to_be_bytes_2 b.out is.out i;
  link = b.link;
}

pub body_above : (b : Body) → IsBody b → IsBytes b.link → IsAbove 45 (encode_lower (body_bytes b))
body_above b is link = digits_above (body_bytes b) (body_bytes_are b is link)

pub body_read : (b : Body) → IsBody b → IsBytes b.link → body_named (encode_lower (body_bytes b)) ≡ Some b
unfolding body_named
body_read b is link =
    ap (λ r. option_map body_of (result_ok r)) (decode_sized-encode_lower (body_bytes b) 18 (length-body_bytes b is) (body_bytes_are b is link))
    ∙ ap Some (body_of-body_bytes b is)
