-- What follows of counts by name.
use Rattle.std.proofs.Common.{◌≡◌, List, ℕ, ◌∙◌, arith, refl}
use Rattle.epic_ports.specs.Faults.{CountsFault, CountsOnly, Rose}

-- counts that agree at each name are the same
pub same_counts : (f g : List ℕ → ℕ) → ((q : List ℕ) → f q ≡ g q) → f ≡ g
same_counts f g each = λ i q. each q i

-- counts that stayed
pub counts_same : (name : List ℕ) (f g : List ℕ → ℕ) → g ≡ f → CountsOnly name f g
counts_same name f g same = rw same (record { later = omega arith; others = λ q other. refl })

-- a fault was counted after the counts had stayed
pub counts_fault : (name : List ℕ) (f g h : List ℕ → ℕ)
    → g ≡ f
    → CountsFault name g h
    → CountsOnly name f h
counts_fault name f g h same fault = rw (← same) (record { later = fault.later; others = fault.others })

-- so the count rose
pub rose_after : (name : List ℕ) (f g h : List ℕ → ℕ)
    → g ≡ f
    → CountsFault name g h
    → Rose (f name) (h name)
rose_after name f g h same fault = rw (← same, fault.once) (omega arith)

-- a count that didn't fall, and then didn't again
pub counts_twice : (name : List ℕ) (f g h : List ℕ → ℕ)
    → CountsOnly name f g
    → CountsOnly name g h
    → CountsOnly name f h
counts_twice name f g h first next = record {
  later = omega (arith, first.later, next.later);
  others = λ q other. next.others q other ∙ first.others q other;
}
