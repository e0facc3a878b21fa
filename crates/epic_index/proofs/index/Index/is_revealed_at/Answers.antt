use Rattle.std.proofs.Common.{◌∙◌}
use Rattle.epic_index.proofs.RevealKeys.{index_revealed_at}
use Rattle.epic_index.proofs.index.Index.is_revealed_at.Goals as goal

pub returns : goal.returns
returns c =
    rw (← c.self.view_is)
    (c.is_some.ensures ∙ index_revealed_at _ _ _ _ _ _ _ _ c.self.invariant.index c.key_of.ensures c.first_reveal.ensures)
