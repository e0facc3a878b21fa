use Rattle.epic_index.proofs.Answering.{index_sends}
use Rattle.epic_index.proofs.index.Index.send_of.Goals as goal

pub returns : goal.returns
returns c = rw (← c.self.view_is, index_sends _ _ c.self.invariant.index.apart) c.send_of.ensures
