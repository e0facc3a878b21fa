-- The bound of a number that a word writes.
use Rattle.std.proofs.Common.{◌≡◌, ℕ, ◌≤◌, Option, Some, None, List}
use Rattle.std.proofs.lemmas.Grind.{common_steps}
use Rattle.std.proofs.Common.{arith}
use Rattle.std.proofs.lemmas.Bool.Decides.{nat_tests}
use Rattle.epic_num.specs.Names.{number_within, number_of, within}

within_most : (least most n : ℕ) (o : Option ℕ) → within least most o ≡ Some n → n ≤ most
within_most least most n (Some m) is = grind (arith, nat_tests, common_steps)
within_most least most n None is = cc

pub number_most : (most : ℕ) (text : List ℕ) (n : ℕ) → number_within most text ≡ Some n → n ≤ most
unfolding number_within
number_most most text n is = within_most 0 most n (number_of text) is
