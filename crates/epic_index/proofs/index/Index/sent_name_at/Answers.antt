use Rattle.epic_index.proofs.Happening.{index_sent_name}
use Rattle.epic_index.proofs.index.Index.sent_name_at.Goals as goal

pub returns : goal.returns
returns c = rw (← c.self.view_is, index_sent_name _ _ _ _ c.self.invariant.index.apart) c.name_sent.ensures
