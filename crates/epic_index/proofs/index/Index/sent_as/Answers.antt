use Rattle.epic_index.proofs.SentOrder.{index_sent_as}
use Rattle.epic_index.proofs.index.Index.sent_as.Goals as goal

pub first_sent_as-requires : goal.first_sent_as-requires
first_sent_as-requires c = c.self.invariant.sent_is

pub returns : goal.returns
returns c = rw (← c.self.view_is) (index_sent_as _ _ _ _ c.self.invariant.index.apart c.first_sent_as.ensures)
