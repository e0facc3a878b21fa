-- The texts of numbers of rounds, and the blocks of a message.
use Rattle.std.proofs.Common.{◌≡◌, ℕ, ◌+◌, ◌/◌, ◌%◌, ◌<◌, ◌≤◌, List, length, Option, Some, None, decimal, refl, ap, ◌∙◌, arith}
use Rattle.std.specs.Simd.{first_chunks}
use Rattle.std.proofs.lemmas.Fmt.{length-decimal-le}
use Rattle.std.proofs.lemmas.List.FromFn.{length-map-range_with_len}
use Rattle.epic_num.specs.Names.{number_within}
use Rattle.epic_num.proofs.OneSpelling.{number_spelling}
use Rattle.epic_bench.specs.Works.{message}

-- a number that is read is within its bound
pub within_bound : (word : List ℕ) (n : ℕ) → number_within 0xffff_ffff word ≡ Some n → n ≤ 0xffff_ffff
within_bound word n read = ((number_spelling 0xffff_ffff (omega arith) word n).0 read).0

-- it has at most ten digits
pub few_digits : (word : List ℕ) (n : ℕ) → number_within 0xffff_ffff word ≡ Some n → length word ≤ 10
few_digits word n read =
    let spelt = (number_spelling 0xffff_ffff (omega arith) word n).0 read in
    let bound = spelt.0 in
    let few : length (decimal n) ≤ 10 = length-decimal-le 10 n (omega arith) (omega arith) (omega arith) in
    let same : length word ≡ length (decimal n) = ap length spelt.1 in
    omega arith

pub long_number : (word : List ℕ) → 10 < length word → number_within 0xffff_ffff word ≡ None
long_number word long = none (number_within 0xffff_ffff word) (λ n read. few_digits word n read)
  where
    none : (o : Option ℕ) → ((n : ℕ) → o ≡ Some n → length word ≤ 10) → o ≡ None
    none None few = refl
    none (Some n) few = let short = few n refl in absurd (omega arith)

-- a message of 1,024 bytes is 64 blocks
pub all_chunks : (seed : ℕ) (bytes : List ℕ) (found : List (List ℕ)) → bytes ≡ message seed 1024 →
    found ≡ first_chunks 16 (length bytes / 16) bytes → found ≡ first_chunks 16 64 (message seed 1024)
unfolding message
all_chunks seed bytes found filled cut =
    let long : length bytes ≡ 1024 = ap length filled ∙ length-map-range_with_len (λ i. (seed + i) % 256) 0 1024 in
    let count : length bytes / 16 ≡ 64 = omega arith in
    cut ∙ (λ i. first_chunks 16 (count i) (filled i))
