use Rattle.std.proofs.Common.{rules, ◌≡◌, Err, ap}
use Rattle.epic_ports.specs.declared.error.PortError.TheVariants.{OutOfMemory}
use Rattle.epic_ports.specs.FaultCounts as fault_counts
use Rattle.epic_ports.proofs.Counting.{counts_fault, counts_same, rose_after}
use Rattle.epic_ports.proofs.disk_store.DiskStoreStore.append.Goals as goal

pub returns-in_err-make_room-clause-writes : goal.returns-in_err-make_room-clause-writes
returns-in_err-make_room-clause-writes g c = counts_same _ _ _ c.make_room.ensures.writes

pub returns-in-Ok-clause-writes : goal.returns-in-Ok-clause-writes
returns-in-Ok-clause-writes g c = counts_same _ _ _ c.make_room.ensures.writes

pub returns-in_default-clause-writes : goal.returns-in_default-clause-writes
returns-in_default-clause-writes g c =
    let before = fault_counts.writes_of c.args.self.now.counts in
    let room = fault_counts.writes_of c.make_room.new.self in
    let after = fault_counts.writes_of c.count_write.new.self in
    counts_fault c.args.name.now before room after c.make_room.ensures.writes c.count_write.ensures.writes

pub returns-in_default-clause-cause : goal.returns-in_default-clause-cause
returns-in_default-clause-cause g c =
    let before = fault_counts.writes_of c.args.self.now.counts in
    let room = fault_counts.writes_of c.make_room.new.self in
    let after = fault_counts.writes_of c.count_write.new.self in
    rose_after c.args.name.now before room after c.make_room.ensures.writes c.count_write.ensures.writes

pub returns-in_err-make_room-clause-cause : goal.returns-in_err-make_room-clause-cause
returns-in_err-make_room-clause-cause g c =
    let memory : c.from_residual.result ≡ Err OutOfMemory = search rules in
    rw memory (ap (λ counts. counts c.args.name.now) c.make_room.ensures.writes)
