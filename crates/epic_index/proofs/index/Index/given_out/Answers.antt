use Rattle.std.proofs.Common.{◌∙◌}
use Rattle.epic_index.proofs.FieldKeys.{index_given}
use Rattle.epic_index.proofs.index.Index.given_out.Goals as goal

pub returns : goal.returns
returns c =
    rw (← c.self.view_is)
    (c.is_some.ensures
    ∙ index_given _ _ _ _ c.args.a c.args.src c.args.epoch c.args.message.now _ _ c.self.invariant.index c.key_of-key.ensures c.first_update.ensures)
