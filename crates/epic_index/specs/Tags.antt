-- The number that a key's order looks at first is a tag of the key.
use Rattle.std.proofs.Common.{ap}
use Rattle.std.specs.Prelude.{◌≡◌, ℕ, ◌%◌, ◌^◌}
use Rattle.std.specs.Ordering.{nat_cmp, ordering_then}
use Rattle.std.specs.declared.cmp.Ordering.{Ordering}
use Rattle.std.specs.declared.cmp.Ordering.TheVariants.{Less, Equal, Greater}
use Rattle.epic_tree.proofs.Indexing.{same_number}

-- where the whole is equal, so is the first part
pub first_equal : (o q : Ordering) → ordering_then o q ≡ Equal → o ≡ Equal
first_equal Less q e = absurd (cc)
first_equal Equal q e = cc
first_equal Greater q e = absurd (cc)

-- where the first part of a key is a number and the key is as another one, that number is as the other's
pub first_same : (m n : ℕ) (q : Ordering) → ordering_then (nat_cmp m n) q ≡ Equal → m ≡ n
first_same m n q e = same_number m n (first_equal (nat_cmp m n) q e)

-- and so is the lower half of it
pub first_alike : (m n : ℕ) (q : Ordering) → ordering_then (nat_cmp m n) q ≡ Equal → m % 2 ^ 32 ≡ n % 2 ^ 32
first_alike m n q e = ap (λ (k : ℕ). k % 2 ^ 32) (first_same m n q e)
