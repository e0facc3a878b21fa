-- Counts of faults: what a call that fails does to them.
use Rattle.std.specs.Prelude.{◌≡◌, ◌≢◌, ℕ, ◌+◌, ◌-◌, ◌^◌, ◌≤◌, min, Bool, ◌==◌, List, Result, Ok, Err, ⊤}
use Rattle.std.specs.List.{list_any}
use Rattle.epic_ports.specs.declared.error.PortError.{PortError}
use Rattle.epic_ports.specs.declared.error.PortError.TheVariants.{Failed, OutOfMemory}
use Rattle.epic_ports.specs.declared.error.ReadError.{ReadError}
use Rattle.epic_ports.specs.declared.error.ReadError.TheVariants as read_error

-- one more, or the end of the type
abbrev pub next_count : ℕ → ℕ
next_count count = min (count + 1) (2 ^ 64 - 1)

-- a count rose by one at least; one that stands at the end of its type counts as risen
abbrev pub Rose : ℕ → ℕ → Type 0
Rose before now = next_count before ≤ now

-- a call's number stands in the list of those that fail
abbrev pub is_listed : List ℕ → ℕ → Bool
is_listed fail call = list_any (λ number. number == call) fail

-- counts by name: that of this name didn't fall, and every other stayed
pub record CountsOnly (name : List ℕ) (old new : List ℕ → ℕ) : Type 0 where
  pub later : old name ≤ new name
  pub others : (q : List ℕ) → q ≢ name → new q ≡ old q

-- one fault of this name was counted, and every other count stayed
pub record CountsFault (name : List ℕ) (old new : List ℕ → ℕ) : Type 0 where
  pub once : new name ≡ next_count (old name)
  pub later : old name ≤ new name
  pub others : (q : List ℕ) → q ≢ name → new q ≡ old q

-- a call answers Failed only where the count rose in it; where memory ran out the count stayed
abbrev pub FailsBy : {X : Type 0} → ℕ → ℕ → Result X PortError → Type 0
FailsBy before now (Ok x) = ⊤
FailsBy before now (Err Failed) = Rose before now
FailsBy before now (Err OutOfMemory) = now ≡ before

-- the same of a call that may have counted faults before memory ran out
abbrev pub FailsWhereRose : {X : Type 0} → ℕ → ℕ → Result X PortError → Type 0
FailsWhereRose before now (Ok x) = ⊤
FailsWhereRose before now (Err Failed) = Rose before now
FailsWhereRose before now (Err OutOfMemory) = ⊤

-- the same of a call that takes no memory, so that Failed is its only error
abbrev pub FailsOnlyBy : {X : Type 0} → ℕ → ℕ → Result X PortError → Type 0
FailsOnlyBy before now (Ok x) = ⊤
FailsOnlyBy before now (Err Failed) = Rose before now
FailsOnlyBy before now (Err OutOfMemory) = ⊥

-- the same of a call that reads a whole file
abbrev pub ReadFailsBy : {X : Type 0} → ℕ → ℕ → Result X ReadError → Type 0
ReadFailsBy before now (Ok x) = ⊤
ReadFailsBy before now (Err read_error.Failed) = Rose before now
ReadFailsBy before now (Err read_error.TooLong) = ⊤
ReadFailsBy before now (Err read_error.OutOfMemory) = ⊤
