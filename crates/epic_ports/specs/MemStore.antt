-- What a store in memory holds and answers.
use Rattle.std.specs.Prelude.{◌≡◌, ℕ, Bool, true, false, List, Option, Result, Ok, Err, ⊤}
use Rattle.epic_ports.specs.declared.error.PortError.{PortError}
use Rattle.epic_ports.specs.declared.error.PortError.TheVariants.{Failed, OutOfMemory}
use Rattle.epic_ports.specs.declared.mem_store.MemStore.{MemStore}
use Rattle.epic_ports.specs.FaultCounts as fault_counts
use Rattle.epic_ports.specs.Faults.{CountsFault, is_listed, next_count}
use Rattle.epic_ports.specs.Files.{Files}
use Rattle.epic_ports.specs.MemFiles.{File, files_in, told_in}

-- the bytes of each name that is there
abbrev pub contents_of : MemStore → Files
contents_of store = files_in store.files.items

-- what it tells
abbrev pub told_of : MemStore → Option Files
told_of store = told_in store.files.items

-- how many reads of a name failed
abbrev pub reads_of : MemStore → List ℕ → ℕ
reads_of store = fault_counts.reads_of store.counts

-- how many writes of a name failed
abbrev pub writes_of : MemStore → List ℕ → ℕ
writes_of store = fault_counts.writes_of store.counts

-- the next call is one of those that fail
abbrev pub is_next_listed : MemStore → Bool
is_next_listed store = is_listed store.fail.items (next_count store.calls)

-- a new store of these files: nothing was called yet
pub record HoldsNew (store : MemStore) (files : List File) (numbers : List ℕ) : Type 0 where
  pub contents : contents_of store ≡ files_in files
  pub reads : (q : List ℕ) → reads_of store q ≡ 0
  pub writes : (q : List ℕ) → writes_of store q ≡ 0
  pub fail : store.fail.items ≡ numbers
  pub calls : store.calls ≡ 0

-- a call fails exactly where it has this cause, but for want of memory
abbrev pub FailsWhere : {X : Type 0} → Bool → Result X PortError → Type 0
FailsWhere cause (Ok x) = cause ≡ false
FailsWhere cause (Err Failed) = cause ≡ true
FailsWhere cause (Err OutOfMemory) = ⊤

-- how many calls there were after a call with this answer: one that ran out of memory isn't counted
abbrev pub calls_after : {X : Type 0} → ℕ → Result X PortError → ℕ
calls_after calls (Ok x) = next_count calls
calls_after calls (Err Failed) = next_count calls
calls_after calls (Err OutOfMemory) = calls

-- a fault of this name is counted where the call failed, and nothing else
abbrev pub CountsWhere : {X : Type 0}
    → List ℕ → (List ℕ → ℕ) → (List ℕ → ℕ) → Result X PortError → Type 0
CountsWhere name old new (Ok x) = new ≡ old
CountsWhere name old new (Err Failed) = CountsFault name old new
CountsWhere name old new (Err OutOfMemory) = new ≡ old

-- the call was counted, and the list of those that fail stays
pub record CountsCall {X : Type 0} (old new : MemStore) (result : Result X PortError) : Type 0 where
  pub calls : new.calls ≡ calls_after old.calls result
  pub fail : new.fail.items ≡ old.fail.items

-- a fault of this name was counted; where memory ran out nothing was
abbrev pub CountsRefusal : {X E : Type 0}
    → List ℕ → (List ℕ → ℕ) → (List ℕ → ℕ) → Result X E → Type 0
CountsRefusal name old new (Ok x) = CountsFault name old new
CountsRefusal name old new (Err e) = new ≡ old
