-- The counts of faults of a store, as functions of the name.
use Rattle.std.specs.Prelude.{ℕ, List, Option, Some, None, IsSome}
use Rattle.std.specs.BTreeMap.{get_by_text}
use Rattle.epic_ports.specs.declared.counts.Counts.{Counts}
use Rattle.epic_ports.specs.declared.counts.FaultCounts.{FaultCounts}

abbrev pub reads_in : Option Counts → ℕ
reads_in None = 0
reads_in (Some counts) = counts.reads

abbrev pub writes_in : Option Counts → ℕ
writes_in None = 0
writes_in (Some counts) = counts.writes

-- how many reads of a name failed
abbrev pub reads_of : FaultCounts → List ℕ → ℕ
reads_of counts = λ q. reads_in (get_by_text counts.names q)

-- how many writes of a name failed
abbrev pub writes_of : FaultCounts → List ℕ → ℕ
writes_of counts = λ q. writes_in (get_by_text counts.names q)

-- a fault of this name can be counted
abbrev pub HasRoom : FaultCounts → List ℕ → Type 0
HasRoom counts name = IsSome (get_by_text counts.names name)
