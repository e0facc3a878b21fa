use Rattle.epic_index.proofs.Answering.{index_passes}
use Rattle.epic_index.proofs.index.Index.chain_pass.Goals as goal

pub returns : goal.returns
returns c = rw (← c.self.view_is, index_passes _ _ c.self.invariant.index.apart) c.chain_pass.ensures
