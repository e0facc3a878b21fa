use Rattle.std.proofs.Common.{◌≤◌, ap, subst, sym, ◌∙◌}
use Rattle.std.specs.Prelude.{bytes_eq}
use Rattle.epic_layout.specs.Contents.{as_field, field}
use Rattle.epic_layout.proofs.Offsets.{width_most}
use Rattle.epic_fields.specs.Formulas.{field_part}
use Rattle.epic_fields.specs.HopChecks.{carries_field}
use Rattle.epic_fields.specs.PacketTags.{hop_tag}
use Rattle.epic_fields.proofs.FieldBytes.{field_read}
use Rattle.epic_judge.proofs.hop_tests.has_tag.Goals as goal

pub carries_field-requires-clause-width : goal.carries_field-requires-clause-width
carries_field-requires-clause-width c = subst (λ n. n ≤ 6) (sym c.field_part-right.ensures.width) (width_most c.first_byte.result)

pub returns : goal.returns
unfolding carries_field
returns c =
    let p = c.args.packet.now in
    let tag = hop_tag c.args.topo.now c.args.x.now p c.args.hop in
    c.carries_field.ensures
    ∙ ap (bytes_eq (field p c.args.hop)) (field_read c.field_part-right.result (field_part p.first tag) (c.field_part-right.ensures.bytes ∙ (λ i. as_field (field_part (c.first_byte.ensures i) (c.hop_tag.ensures i)))))
