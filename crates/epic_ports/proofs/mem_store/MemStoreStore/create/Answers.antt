use Rattle.std.proofs.Common.{rules, ◌≡◌, Err, ap}
use Rattle.epic_ports.specs.declared.error.PortError.TheVariants.{OutOfMemory}
use Rattle.epic_ports.specs.MemStore.{writes_of}
use Rattle.epic_ports.specs.FaultCounts as fault_counts
use Rattle.epic_ports.proofs.Counting.{counts_fault, counts_same, rose_after}
use Rattle.epic_ports.proofs.mem_store.MemStoreStore.create.Goals as goal

pub returns-in_err-make_room-clause-writes : goal.returns-in_err-make_room-clause-writes
returns-in_err-make_room-clause-writes c = counts_same _ _ _ c.make_room.ensures.writes

pub returns-in_err-empty_file-clause-writes : goal.returns-in_err-empty_file-clause-writes
returns-in_err-empty_file-clause-writes c = counts_same _ _ _ c.make_room.ensures.writes

pub returns-clause-writes : goal.returns-clause-writes
returns-clause-writes c = counts_same _ _ _ c.make_room.ensures.writes

pub returns-then-is_listed-clause-writes : goal.returns-then-is_listed-clause-writes
returns-then-is_listed-clause-writes c =
    let before = writes_of c.args.self.now in
    let room = fault_counts.writes_of c.make_room.new.self in
    let after = fault_counts.writes_of c.count_write.new.self in
    counts_fault c.args.name.now before room after c.make_room.ensures.writes c.count_write.ensures.writes

pub returns-then-is_listed-clause-cause : goal.returns-then-is_listed-clause-cause
returns-then-is_listed-clause-cause c =
    let before = writes_of c.args.self.now in
    let room = fault_counts.writes_of c.make_room.new.self in
    let after = fault_counts.writes_of c.count_write.new.self in
    rose_after c.args.name.now before room after c.make_room.ensures.writes c.count_write.ensures.writes

pub returns-in_err-make_room-clause-cause : goal.returns-in_err-make_room-clause-cause
returns-in_err-make_room-clause-cause c =
    let memory : c.from_residual.result ≡ Err OutOfMemory = search rules in
    rw memory (ap (λ counts. counts c.args.name.now) c.make_room.ensures.writes)

pub returns-in_err-empty_file-clause-cause : goal.returns-in_err-empty_file-clause-cause
returns-in_err-empty_file-clause-cause c =
    let memory : c.from_residual-in_err-empty_file.result ≡ Err OutOfMemory = search rules in
    rw memory (ap (λ counts. counts c.args.name.now) c.make_room.ensures.writes)
