use Rattle.std.proofs.Common.{◌≤◌, subst, sym}
use Rattle.epic_layout.proofs.Offsets.{width_most}
use Rattle.epic_judge.proofs.telling.is_field.Goals as goal

pub shared_ref_as_front-eq : goal.shared_ref_as_front-eq
shared_ref_as_front-eq c = subst (λ n. n ≤ 6) (sym c.field-field.ensures.width) (width_most c.args.packet.now.first)
