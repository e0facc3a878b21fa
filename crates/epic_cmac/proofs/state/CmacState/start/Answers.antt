use Rattle.epic_cmac.proofs.HeldLemmas.{held_empty}
use Rattle.epic_cmac.proofs.state.CmacState.start.Goals as goal

pub invariant_of-result : goal.invariant_of-result
invariant_of-result c = rw c.empty.ensures (held_empty c.new.result _)
