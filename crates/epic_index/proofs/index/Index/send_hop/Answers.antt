use Rattle.epic_index.proofs.Answering.{index_send_hop}
use Rattle.epic_index.proofs.index.Index.send_hop.Goals as goal

pub returns : goal.returns
returns c = rw (← c.self.view_is, index_send_hop _ _ _ _ _ c.self.invariant.index.apart) c.send_hop.ensures
