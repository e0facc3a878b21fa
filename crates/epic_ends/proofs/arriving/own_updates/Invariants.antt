use Rattle.epic_num.specs.Levels.{width_of}
use Rattle.epic_ends.proofs.OwnUpdates.{AreFirst}
use Rattle.epic_ends.proofs.arriving.own_updates.Given as goal

abbrev pub invariant-loop-hop : goal.invariant-loop-hop
invariant-loop-hop l = AreFirst l.packet (width_of l.packet.first) l.hop l.updates.items
