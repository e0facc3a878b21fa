-- Two writes into a list, one after the other.
use Rattle.std.proofs.Common.{ℕ, ◌<◌, refl, ◌∙◌, ap, List, length, get_or, set, arith, get_or-set_same, get_or-set_other}
use Rattle.std.proofs.Math.ListN.{length-set}
use Rattle.epic_pool.specs.Rings.{TwoWrites}

pub two_writes : (xs : List ℕ) (p v n w : ℕ) → p < length xs → n < length xs → TwoWrites xs (set (set xs p v) n w) p v n w
two_writes xs p v n w p_in n_in = record {
  same_length = length-set (set xs p v) n w ∙ length-set xs p v;
  at_last = let there : n < length (set xs p v) = omega (arith, length-set xs p v) in rw get_or-set_same refl;
  at_first = λ k is apart. rw get_or-set_other (ap (λ (i : ℕ). get_or (set xs p v) i 0) is ∙ get_or-set_same xs p v 0 p_in);
  elsewhere = λ k apart other. rw get_or-set_other (rw get_or-set_other refl);
}
