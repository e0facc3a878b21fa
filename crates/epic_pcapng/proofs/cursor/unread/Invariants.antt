use Rattle.std.proofs.Common.{length}
use Rattle.epic_pcapng.proofs.Unread.{Unread}
use Rattle.epic_pcapng.proofs.cursor.unread.Given as goal

abbrev pub invariant-loop-rest : goal.invariant-loop-rest
invariant-loop-rest l = Unread l.fn.order l.begin l.bytes l.order l.at l.rest

abbrev pub decreases-loop-rest : goal.decreases-loop-rest
decreases-loop-rest l = length l.rest
