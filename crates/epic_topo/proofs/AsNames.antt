-- The text of an AS has at most 20 bytes.
use Rattle.std.proofs.Common.{◌≡◌, ℕ, zero, suc, ◌+◌, ◌*◌, ◌/◌, ◌%◌, ◌^◌, ◌<◌, ◌≤◌, ◌==◌, false, List, [], ◌∷◌, ◌++◌, length, length-append, nat_lt, Option, None, Some, decimal, refl, ap, arith}
use Rattle.std.specs.Fmt.{digit_glyph, digits, digits_onto}
use Rattle.std.proofs.lemmas.Bool.{cond_both, eqb-false, ltb-true}
use Rattle.std.proofs.lemmas.Fmt.{length-decimal-le}
use Rattle.std.proofs.Math.Nat.{div-lt_iff_lt-mul, pow-suc}
use Rattle.epic_num.specs.Names.{IsReadable, as_of, as_part, as_part_text, as_text, colon, dash, groups_text, hexadecimal, isd_part}
use Rattle.epic_num.proofs.OneSpelling.{as_spelling}

-- ---- how long digits are

onto_short : (k j n : ℕ) (acc : List ℕ) → n < 16 ^ suc j → length (digits_onto k 16 false n acc) ≤ suc j + length acc
onto_short zero j n acc h = omega arith
onto_short (suc k) zero n acc h =
    let next = digit_glyph false (n % 16) ∷ acc in
    cond_both (n / 16 == 0) next (digits_onto k 16 false (n / 16) next) (λ ds. length ds ≤ 1 + length acc)
    (λ _. omega arith)
    (λ e. absurd (eqb-false (n / 16) 0 e (omega arith)))
onto_short (suc k) (suc j) n acc h =
    let next = digit_glyph false (n % 16) ∷ acc in
    let less : n < 16 ^ suc j * 16 = rw pow-suc at h in
    let rest : n / 16 < 16 ^ suc j = (div-lt_iff_lt-mul {k = 16} {x = n} {y = 16 ^ suc j} (omega arith)).1 less in
    cond_both (n / 16 == 0) next (digits_onto k 16 false (n / 16) next) (λ ds. length ds ≤ suc (suc j) + length acc)
    (λ _. omega arith)
    (λ _. omega (arith, onto_short k j (n / 16) next rest))

group_short : (n : ℕ) → n < 2 ^ 16 → length (hexadecimal n) ≤ 4
unfolding digits
group_short n h = onto_short 64 3 n [] h

groups_short : (n : ℕ) → n < 2 ^ 48 → length (groups_text n) ≤ 14
groups_short n h =
    let first : length (hexadecimal (n / 2 ^ 32)) ≤ 4 = group_short (n / 2 ^ 32) (omega arith) in
    let second : length (hexadecimal (n / 2 ^ 16 % 2 ^ 16)) ≤ 4 = group_short (n / 2 ^ 16 % 2 ^ 16) (omega arith) in
    let third : length (hexadecimal (n % 2 ^ 16)) ≤ 4 = group_short (n % 2 ^ 16) (omega arith) in
    omega (
      arith,
      length-append (hexadecimal (n / 2 ^ 32)) (colon ∷ (hexadecimal (n / 2 ^ 16 % 2 ^ 16) ++ (colon ∷ hexadecimal (n % 2 ^ 16)))),
      length-append (hexadecimal (n / 2 ^ 16 % 2 ^ 16)) (colon ∷ hexadecimal (n % 2 ^ 16)),
    )

part_short : (n : ℕ) → n < 2 ^ 48 → length (as_part_text n) ≤ 14
part_short n h =
    cond_both (nat_lt n (2 ^ 32)) (decimal n) (groups_text n) (λ ds. length ds ≤ 14)
    (λ e. let small : n < 2 ^ 32 = ltb-true n (2 ^ 32) e in omega (arith, length-decimal-le 10 n (omega arith) (omega arith) (omega arith)))
    (λ e. groups_short n h)

name_short : (a : ℕ) → a < 2 ^ 64 → length (as_text a) ≤ 20
unfolding as_text
name_short a h =
    let isd : length (decimal (isd_part a)) ≤ 5 = length-decimal-le 5 (isd_part a) (omega arith) (omega arith) (omega arith) in
    omega (arith, part_short (as_part a) (omega arith), length-append (decimal (isd_part a)) (dash ∷ as_part_text (as_part a)))

-- ---- what is read

pub readable : (text : List ℕ) (a : ℕ) → as_of text ≡ Some a → IsReadable a
readable text a e = ((as_spelling text a).0 e).0

-- a text of more than 20 bytes names no AS
pub no_long_name : (text : List ℕ) → 20 < length text → as_of text ≡ None
no_long_name text long = none (as_of text) refl
  where
    none : (o : Option ℕ) → as_of text ≡ o → o ≡ None
    none None e = refl
    none (Some a) e =
        let read = (as_spelling text a).0 e in
        absurd (omega (arith, ap length read.1, name_short a read.0.0))
