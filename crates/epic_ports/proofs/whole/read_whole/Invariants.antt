use Rattle.std.proofs.Common.{◌≡◌, ◌≤◌, ◌+◌, ◌-◌, length}
use Rattle.epic_ports.specs.Faults.{CountsOnly}
use Rattle.epic_ports.specs.Files.{KeepsFiles}
use Rattle.epic_ports.proofs.HasFront.{HasFront}
use Rattle.epic_ports.proofs.whole.read_whole.Given as goal

abbrev pub invariant-loop-n : goal.invariant-loop-n
invariant-loop-n g l =
    (length l.bytes.items ≤ l.limit)
    × HasFront (g.S.Store.contents l.initial.store) l.name l.bytes.items
    × KeepsFiles (g.S.Store.contents l.initial.store) (g.S.Store.contents l.store)
    × CountsOnly l.name (g.S.Store.reads l.initial.store) (g.S.Store.reads l.store)
    × (g.S.Store.writes l.store ≡ g.S.Store.writes l.initial.store)

abbrev pub decreases-loop-n : goal.decreases-loop-n
decreases-loop-n g l = l.limit + 1 - length l.bytes.items
