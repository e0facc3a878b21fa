-- What a store on disk counts.
use Rattle.std.specs.Prelude.{ℕ, List}
use Rattle.epic_ports.specs.declared.disk_store.DiskStore.{DiskStore}
use Rattle.epic_ports.specs.FaultCounts as fault_counts

-- how many reads of a name failed
abbrev pub reads_of : {R : Type 0} → DiskStore R → List ℕ → ℕ
reads_of store = fault_counts.reads_of store.counts

-- how many writes of a name failed
abbrev pub writes_of : {R : Type 0} → DiskStore R → List ℕ → ℕ
writes_of store = fault_counts.writes_of store.counts
