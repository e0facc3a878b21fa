use Rattle.std.proofs.Common.{◌∙◌}
use Rattle.epic_index.proofs.ChildKeys.{index_child}
use Rattle.epic_index.proofs.index.Index.is_child.Goals as goal

pub returns : goal.returns
returns c =
    rw (← c.self.view_is)
    (c.is_some.ensures ∙ index_child _ _ _ _ c.args.y.now c.args.z.now _ _ c.self.invariant.index c.key_of.ensures c.first_child.ensures)
