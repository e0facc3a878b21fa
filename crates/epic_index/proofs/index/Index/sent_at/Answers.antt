use Rattle.epic_index.proofs.Happening.{index_sent}
use Rattle.epic_index.proofs.index.Index.sent_at.Goals as goal

pub returns : goal.returns
returns c = rw (← c.self.view_is, index_sent _ _ _ c.self.invariant.index.apart) c.sent.ensures
