-- The decimal number of a word, within bounds.
use Rattle.std.proofs.Common.{◌≡◌, ℕ, ◌+◌, ◌^◌, ◌<◌, ◌≤◌, ◌&&◌, nat_le, true, false, cond, List, length, Option, Some, None, decimal, refl, ap, arith}
use Rattle.std.proofs.lemmas.Bool.Decides.{nat_tests}
use Rattle.std.proofs.lemmas.Fmt.{length-decimal-le}
use Rattle.std.proofs.lemmas.Grind.{common_steps}
use Rattle.epic_num.specs.Names.{number_of, number_within, within}
use Rattle.epic_words.specs.Request.{number_in}
use Rattle.epic_num.proofs.OneSpelling.{number_spelling}

-- a number within its upper bound is within both, or below the lower
within_both : (least most n : ℕ) (o : Option ℕ) → within 0 most o ≡ Some n → least ≤ n → Some n ≡ within least most o
within_both least most n None is low = absurd (cc)
within_both least most n (Some m) is low = grind (arith, nat_tests, common_steps)

below : (least most n : ℕ) (o : Option ℕ) → within 0 most o ≡ Some n → n < least → None ≡ within least most o
below least most n None is low = absurd (cc)
below least most n (Some m) is low = grind (arith, nat_tests, common_steps)

above : (least most : ℕ) (o : Option ℕ) → within 0 most o ≡ None → None ≡ within least most o
above least most None is = refl
above least most (Some m) is = grind (arith, nat_tests, common_steps)

at_most : (most n : ℕ) (o : Option ℕ) → within 0 most o ≡ Some n → n ≤ most
at_most most n None is = absurd (cc)
at_most most n (Some m) is = grind (arith, nat_tests, common_steps)

pub number_there : (least most n : ℕ) (word : List ℕ) → number_within most word ≡ Some n → least ≤ n → Some n ≡ number_in least most word
unfolding number_in number_within
number_there least most n word is low = within_both least most n (number_of word) is low

pub number_below : (least most n : ℕ) (word : List ℕ) → number_within most word ≡ Some n → n < least → None ≡ number_in least most word
unfolding number_in number_within
number_below least most n word is low = below least most n (number_of word) is low

pub number_above : (least most : ℕ) (word : List ℕ) → number_within most word ≡ None → None ≡ number_in least most word
unfolding number_in number_within
number_above least most word is = above least most (number_of word) is

pub number_at_most : (most n : ℕ) (word : List ℕ) → number_within most word ≡ Some n → n ≤ most
unfolding number_within
number_at_most most n word is = at_most most n (number_of word) is

-- a text of more than 20 bytes writes no number of 64 bits
pub no_long_number : (most : ℕ) (word : List ℕ) → most < 2 ^ 64 → 20 < length word → number_within most word ≡ None
no_long_number most word small long = none (number_within most word) refl
  where
    none : (o : Option ℕ) → number_within most word ≡ o → o ≡ None
    none None e = refl
    none (Some n) e =
        let (low, same) = (number_spelling most small word n).0 e in
        absurd (omega (arith, ap length same, length-decimal-le 20 n (omega arith) (omega arith) (omega arith)))
