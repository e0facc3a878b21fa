use Rattle.std.proofs.Common.{rules, ◌≡◌, Err, ap}
use Rattle.epic_ports.specs.declared.error.PortError.TheVariants.{OutOfMemory}
use Rattle.epic_ports.specs.FaultCounts as fault_counts
use Rattle.epic_ports.proofs.Counting.{counts_fault, counts_same, rose_after}
use Rattle.epic_ports.proofs.disk_store.DiskStoreStore.read_at.Goals as goal

pub returns-in_err-make_room-clause-reads : goal.returns-in_err-make_room-clause-reads
returns-in_err-make_room-clause-reads g c = counts_same _ _ _ c.make_room.ensures.reads

pub returns-in-Ok-clause-reads : goal.returns-in-Ok-clause-reads
returns-in-Ok-clause-reads g c = counts_same _ _ _ c.make_room.ensures.reads

pub returns-in-Err-clause-reads : goal.returns-in-Err-clause-reads
returns-in-Err-clause-reads g c =
    let before = fault_counts.reads_of c.args.self.now.counts in
    let room = fault_counts.reads_of c.make_room.new.self in
    let after = fault_counts.reads_of c.count_read.new.self in
    counts_fault c.args.name.now before room after c.make_room.ensures.reads c.count_read.ensures.reads

pub returns-in-Err-clause-cause : goal.returns-in-Err-clause-cause
returns-in-Err-clause-cause g c =
    let before = fault_counts.reads_of c.args.self.now.counts in
    let room = fault_counts.reads_of c.make_room.new.self in
    let after = fault_counts.reads_of c.count_read.new.self in
    rose_after c.args.name.now before room after c.make_room.ensures.reads c.count_read.ensures.reads

pub returns-in_err-make_room-clause-cause : goal.returns-in_err-make_room-clause-cause
returns-in_err-make_room-clause-cause g c =
    let memory : c.from_residual.result ≡ Err OutOfMemory = search rules in
    rw memory (ap (λ counts. counts c.args.name.now) c.make_room.ensures.reads)
