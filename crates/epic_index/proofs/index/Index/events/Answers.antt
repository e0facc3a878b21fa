use Rattle.epic_index.proofs.Steps.{length_stepped}
use Rattle.epic_index.proofs.index.Index.events.Goals as goal

pub returns : goal.returns
returns c = rw (← c.self.view_is, length_stepped _ _ c.self.invariant.index.apart.count) c.events.ensures.value
