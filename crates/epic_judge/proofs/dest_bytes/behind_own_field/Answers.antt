use Rattle.std.proofs.Common.{◌≤◌, sym, ap, subst, ◌∙◌}
use Rattle.std.specs.Prelude.{option_copied}
use Rattle.epic_layout.proofs.Offsets.{width_most}
use Rattle.epic_judge.specs.Compared.{behind}
use Rattle.epic_judge.proofs.dest_bytes.behind_own_field.Goals as goal

pub behind_field-requires : goal.behind_field-requires
behind_field-requires c = subst (λ n. n ≤ 6) (sym c.field-field.ensures.width) (width_most c.args.packet.now.first)

pub returns : goal.returns
returns c = c.behind_field.ensures ∙ ap (λ v. behind v (option_copied c.args.rest)) c.field-field.ensures.bytes
