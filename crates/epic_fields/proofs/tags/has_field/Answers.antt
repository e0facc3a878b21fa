use Rattle.std.proofs.Common.{◌≤◌, ap, subst, sym, ◌∙◌}
use Rattle.epic_layout.proofs.Offsets.{width_most}
use Rattle.epic_fields.specs.HopChecks.{carries_field, has_field}
use Rattle.epic_fields.specs.PacketTags.{field_of}
use Rattle.epic_fields.proofs.FieldBytes.{field_read}
use Rattle.epic_fields.proofs.tags.has_field.Goals as goal

pub carries_field-requires-clause-width : goal.carries_field-requires-clause-width
carries_field-requires-clause-width c = subst (λ n. n ≤ 6) (sym c.field_of.ensures.width) (width_most c.args.packet.now.first)

pub returns : goal.returns
unfolding has_field
returns c =
    c.carries_field.ensures
    ∙ ap (λ v. carries_field v c.args.packet.now c.args.hop)
    (field_read c.field_of.result (field_of c.args.topo.now c.args.x.now c.args.packet.now c.args.hop) c.field_of.ensures.bytes)
