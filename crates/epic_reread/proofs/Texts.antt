-- The texts of numbers, ASes and bytes have neither a space nor a comma.
use Rattle.std.proofs.Common.{◌≡◌, ℕ, ◌/◌, ◌%◌, ◌^◌, ◌<◌, ◌≤◌, true, List, [], ◌∷◌, ◌++◌, refl, arith, decimal, nat_lt}
use Rattle.std.specs.List.{list_all}
use Rattle.std.proofs.lemmas.Bool.{and_parts, cond_both}
use Rattle.std.proofs.lemmas.Grind.{common_steps}
use Rattle.epic_num.specs.Names.{as_text, as_part_text, colon, dash, groups_text, hexadecimal, is_digit_of}
use Rattle.epic_num.proofs.Spelled.{digits_are_numeral}
use Rattle.epic_reread.proofs.Clean.{above, both_above, next_above, IsAbove}

digit_above : (base c : ℕ) → base ≤ 16 → is_digit_of base c ≡ true → above 45 c ≡ true
digit_above base c b d = grind (arith, common_steps)

numeral_above : (base : ℕ) (text : List ℕ) → base ≤ 16 → list_all (is_digit_of base) text ≡ true → IsAbove 45 text
numeral_above base [] b h = refl
numeral_above base (c ∷ cs) b h =
    let p = and_parts (is_digit_of base c) (list_all (is_digit_of base) cs) h in
    next_above 45 c cs (digit_above base c b p.0) (numeral_above base cs b p.1)

pub decimal_above : (n : ℕ) → n < 2 ^ 64 → IsAbove 45 (decimal n)
decimal_above n small =
    numeral_above 10 (decimal n) (omega arith) (digits_are_numeral 10 n n (omega arith) (omega arith) (omega arith) (omega arith)).digits

hexadecimal_above : (n : ℕ) → n < 2 ^ 64 → IsAbove 45 (hexadecimal n)
hexadecimal_above n small =
    numeral_above 16 (hexadecimal n) (omega arith) (digits_are_numeral 16 n n (omega arith) (omega arith) (omega arith) (omega arith)).digits

groups_above : (n : ℕ) → n < 2 ^ 64 → IsAbove 45 (groups_text n)
groups_above n small =
    let high = hexadecimal (n / 2 ^ 32) in
    let middle = hexadecimal (n / 2 ^ 16 % 2 ^ 16) in
    let low = hexadecimal (n % 2 ^ 16) in
    let rest : IsAbove 45 (middle ++ (colon ∷ low)) = both_above 45 middle (colon ∷ low) (hexadecimal_above (n / 2 ^ 16 % 2 ^ 16) (omega arith))
    (next_above 45 colon low refl (hexadecimal_above (n % 2 ^ 16) (omega arith))) in
    both_above 45 high (colon ∷ (middle ++ (colon ∷ low))) (hexadecimal_above (n / 2 ^ 32) (omega arith))
    (next_above 45 colon (middle ++ (colon ∷ low)) refl rest)

part_above : (n : ℕ) → n < 2 ^ 64 → IsAbove 45 (as_part_text n)
part_above n small =
    cond_both (nat_lt n (2 ^ 32)) (decimal n) (groups_text n) (IsAbove 45) (λ e. decimal_above n small) (λ e. groups_above n small)

pub as_above : (a : ℕ) → a < 2 ^ 64 → IsAbove 45 (as_text a)
unfolding as_text
as_above a small =
    let part = as_part_text (a % 2 ^ 48) in
    both_above 45 (decimal (a / 2 ^ 48)) (dash ∷ part) (decimal_above (a / 2 ^ 48) (omega arith))
    (next_above 45 dash part refl (part_above (a % 2 ^ 48) (omega arith)))
