use Rattle.epic_index.proofs.Happening.{index_passed}
use Rattle.epic_index.proofs.index.Index.passed_at.Goals as goal

pub returns : goal.returns
returns c = rw (← c.self.view_is, index_passed _ _ _ c.self.invariant.index.apart) c.passed.ensures
