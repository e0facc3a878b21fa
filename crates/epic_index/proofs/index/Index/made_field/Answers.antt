use Rattle.std.proofs.Common.{◌∙◌}
use Rattle.epic_index.proofs.FieldKeys.{index_made}
use Rattle.epic_index.proofs.index.Index.made_field.Goals as goal

pub returns : goal.returns
returns c =
    rw (← c.self.view_is)
    (c.is_some.ensures
    ∙ index_made _ _ _ _ c.args.a c.args.src c.args.epoch c.args.message.now _ _ c.self.invariant.index c.key_of-key.ensures c.first_field.ensures)
