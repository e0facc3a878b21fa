use Rattle.epic_index.proofs.Answering.{index_pass_of}
use Rattle.epic_index.proofs.index.Index.pass_of.Goals as goal

pub returns : goal.returns
returns c = rw (← c.self.view_is, index_pass_of _ _ _ _ _ _ _ c.self.invariant.index.apart) c.pass_of.ensures
