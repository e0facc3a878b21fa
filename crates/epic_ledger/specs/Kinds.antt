-- Private: serves proofs of this crate alone; no public contract cites it.
-- The events of one kind, by their numbers.
use Rattle.std.specs.Prelude.{ℕ, ◌+◌, List, [], ◌∷◌, Option, Some, None}

abbrev pub number_on : {X : Type 0} → Option X → ℕ → List ℕ → List ℕ
number_on None n ns = ns
number_on (Some x) n ns = n ∷ ns

-- the numbers of those that are of the kind, in a list that begins at number n
abbrev pub numbers_from : {E X : Type 0} → (E → Option X) → ℕ → List E → List ℕ
numbers_from f n [] = []
numbers_from f n (e ∷ es) = number_on (f e) n (numbers_from f (n + 1) es)
