use Rattle.std.proofs.Common.{◌≡◌, ◌<◌, ◌-◌, length}
use Rattle.epic_ports.specs.Faults.{CountsOnly}
use Rattle.epic_ports.specs.Files.{KeepsFiles}
use Rattle.epic_feed.proofs.Fronts.{HasFront}
use Rattle.epic_feed.proofs.first.first_bytes.Given as goal

abbrev pub invariant-loop-bytes : goal.invariant-loop-bytes
invariant-loop-bytes g l =
    (length l.bytes.items < 4)
    × HasFront (g.S.Store.contents l.initial.store) l.name l.bytes.items
    × KeepsFiles (g.S.Store.contents l.initial.store) (g.S.Store.contents l.store)
    × CountsOnly l.name (g.S.Store.reads l.initial.store) (g.S.Store.reads l.store)
    × (g.S.Store.writes l.store ≡ g.S.Store.writes l.initial.store)

abbrev pub decreases-loop-bytes : goal.decreases-loop-bytes
decreases-loop-bytes g l = 4 - length l.bytes.items
