use Rattle.std.proofs.Common.{refl}
use Rattle.epic_ends.proofs.Filled.{ready_tag, tagged_field, tagged_update}
use Rattle.epic_fields.specs.PacketTags.{shared_key}
use Rattle.epic_ends.proofs.filling.tagged_hop.Goals as goal

pub returns-clause-field : goal.returns-clause-field
returns-clause-field c =
    tagged_field _ c.first_byte-first.result c.tag-tag.result (shared_key c.args.topo.now c.args.hop.now.asn c.args.packet.now) _ c.args.hop.now.sigma c.args.packet.now c.args.j
    c.field_part.ensures.bytes c.first_byte-first.ensures
    (ready_tag c.args.topo.now c.args.hop.now.asn c.args.hop.now.sigma c.args.packet.now c.args.j _ _ _ _ c.requires.source c.requires.epoch c.message_over.ensures c.tag-tag.ensures.tag)
    refl c.requires.tagged

pub returns-clause-update : goal.returns-clause-update
returns-clause-update c =
    tagged_update _ c.first_byte-first.result c.tag-tag.result (shared_key c.args.topo.now c.args.hop.now.asn c.args.packet.now) _ c.args.hop.now.sigma c.args.packet.now c.args.j
    c.update_part.ensures.bytes c.first_byte-first.ensures
    (ready_tag c.args.topo.now c.args.hop.now.asn c.args.hop.now.sigma c.args.packet.now c.args.j _ _ _ _ c.requires.source c.requires.epoch c.message_over.ensures c.tag-tag.ensures.tag)
    refl
