use Rattle.std.proofs.Common.{◌≤◌, sym, ap, subst, ◌∙◌}
use Rattle.std.specs.Prelude.{option_copied}
use Rattle.epic_layout.proofs.Offsets.{width_most}
use Rattle.epic_fields.specs.PacketTags.{update_of}
use Rattle.epic_fields.proofs.FieldBytes.{field_read}
use Rattle.epic_judge.specs.Compared.{behind}
use Rattle.epic_judge.proofs.dest_bytes.behind_update.Goals as goal

pub behind_field-requires : goal.behind_field-requires
behind_field-requires c = subst (λ n. n ≤ 6) (sym c.update_of-update.ensures.width) (width_most c.args.sent.now.first)

pub returns : goal.returns
returns c =
    c.behind_field.ensures
    ∙ ap (λ v. behind v (option_copied c.args.rest)) (field_read c.update_of-update.result (update_of c.args.topo.now c.args.name.now c.args.sent.now c.args.hop) c.update_of-update.ensures.bytes)
