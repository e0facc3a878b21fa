use Rattle.epic_index.proofs.Happening.{index_before}
use Rattle.epic_index.proofs.index.Index.passed_before.Goals as goal

pub returns : goal.returns
returns c = rw (← c.self.view_is, index_before _ _ _ _ c.self.invariant.index.apart) c.hop_before.ensures
