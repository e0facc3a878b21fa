use Rattle.epic_cmac.proofs.HeldLemmas.{held_empty}
use Rattle.epic_cmac.proofs.writer.CmacWriter.start.Goals as goal

pub invariant_of-result : goal.invariant_of-result
invariant_of-result c = rw c.empty.ensures (held_empty _ _)
