use Rattle.std.proofs.Common.{◌∙◌}
use Rattle.epic_index.proofs.Answering.{index_revealed}
use Rattle.epic_index.proofs.index.Index.is_revealed.Goals as goal

pub returns : goal.returns
returns c = rw (← c.self.view_is) (c.is_some.ensures ∙ index_revealed _ _ _ _ c.self.invariant.index.apart c.revealed.ensures)
