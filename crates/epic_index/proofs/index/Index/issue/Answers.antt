use Rattle.epic_index.proofs.Answering.{index_issues}
use Rattle.epic_index.proofs.index.Index.issue.Goals as goal

pub returns : goal.returns
returns c = rw (← c.self.view_is, index_issues _ _ c.self.invariant.index.apart) c.issue.ensures
