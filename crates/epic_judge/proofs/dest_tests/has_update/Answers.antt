use Rattle.std.proofs.Common.{◌≤◌, ap, subst, sym, ◌∙◌}
use Rattle.std.specs.Prelude.{bytes_eq}
use Rattle.epic_layout.specs.Contents.{field}
use Rattle.epic_layout.proofs.Offsets.{width_most}
use Rattle.epic_fields.specs.HopChecks.{carries_field}
use Rattle.epic_fields.specs.PacketTags.{update_of}
use Rattle.epic_fields.proofs.FieldBytes.{field_read}
use Rattle.epic_judge.proofs.dest_tests.has_update.Goals as goal

pub carries_field-requires-clause-width : goal.carries_field-requires-clause-width
carries_field-requires-clause-width c = subst (λ n. n ≤ 6) (sym c.update_of-update.ensures.width) (width_most c.args.packet.now.first)

pub returns : goal.returns
unfolding carries_field
returns c =
    let p = c.args.packet.now in
    c.carries_field.ensures
    ∙ ap (bytes_eq (field p c.args.hop)) (field_read c.update_of-update.result (update_of c.args.topo.now c.args.name.now p c.args.hop) c.update_of-update.ensures.bytes)
