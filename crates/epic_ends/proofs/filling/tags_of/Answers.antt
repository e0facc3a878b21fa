use Rattle.epic_ends.proofs.Filled.{filled_tagged}
use Rattle.epic_ends.proofs.filling.tags_of.Goals as goal

pub returns-clause-filled : goal.returns-clause-filled
returns-clause-filled c =
    filled_tagged c.args.topo.now c.args.hops.now c.args.packet.now _ _ c.as_slice.result.now c.dest_field-field.result c.requires.tagged
    c.tagged_hops-fields.ensures.fields c.tagged_hops-fields.ensures.updates c.as_slice.ensures.value c.dest_field-field.ensures.field
