use Rattle.std.proofs.Common.{rules, ◌≡◌, Err, ap}
use Rattle.epic_ports.specs.declared.error.PortError.TheVariants.{OutOfMemory}
use Rattle.epic_ports.specs.MemStore.{reads_of}
use Rattle.epic_ports.specs.FaultCounts as fault_counts
use Rattle.epic_ports.proofs.Counting.{counts_fault, counts_same, rose_after}
use Rattle.epic_ports.proofs.mem_store.MemStoreStore.read_at.Goals as goal

pub returns-in_err-make_room-clause-reads : goal.returns-in_err-make_room-clause-reads
returns-in_err-make_room-clause-reads c = counts_same _ _ _ c.make_room.ensures.reads

pub returns-in-Some-clause-reads : goal.returns-in-Some-clause-reads
returns-in-Some-clause-reads c = counts_same _ _ _ c.make_room.ensures.reads

pub returns-then-is_listed-clause-reads : goal.returns-then-is_listed-clause-reads
returns-then-is_listed-clause-reads c =
    let before = reads_of c.args.self.now in
    let room = fault_counts.reads_of c.make_room.new.self in
    let after = fault_counts.reads_of c.count_read.new.self in
    counts_fault c.args.name.now before room after c.make_room.ensures.reads c.count_read.ensures.reads

pub returns-then-is_listed-clause-cause : goal.returns-then-is_listed-clause-cause
returns-then-is_listed-clause-cause c =
    let before = reads_of c.args.self.now in
    let room = fault_counts.reads_of c.make_room.new.self in
    let after = fault_counts.reads_of c.count_read.new.self in
    rose_after c.args.name.now before room after c.make_room.ensures.reads c.count_read.ensures.reads

pub returns-in-None-clause-reads : goal.returns-in-None-clause-reads
returns-in-None-clause-reads c =
    let before = reads_of c.args.self.now in
    let room = fault_counts.reads_of c.make_room.new.self in
    let after = fault_counts.reads_of c.count_read-in-None.new.self in
    counts_fault c.args.name.now before room after c.make_room.ensures.reads c.count_read-in-None.ensures.reads

pub returns-in-None-clause-cause : goal.returns-in-None-clause-cause
returns-in-None-clause-cause c =
    let before = reads_of c.args.self.now in
    let room = fault_counts.reads_of c.make_room.new.self in
    let after = fault_counts.reads_of c.count_read-in-None.new.self in
    rose_after c.args.name.now before room after c.make_room.ensures.reads c.count_read-in-None.ensures.reads

pub returns-in_err-make_room-clause-cause : goal.returns-in_err-make_room-clause-cause
returns-in_err-make_room-clause-cause c =
    let memory : c.from_residual.result ≡ Err OutOfMemory = search rules in
    rw memory (ap (λ counts. counts c.args.name.now) c.make_room.ensures.reads)
