use Rattle.std.proofs.Common.{◌≡◌, ◌≤◌, take, subst, sym}
use Rattle.epic_layout.specs.Contents.{field}
use Rattle.epic_layout.proofs.Offsets.{width_most}
use Rattle.epic_audit.proofs.dest_message.append_field.Goals as goal

pub shared_ref_as_front-extend_from_slice : goal.shared_ref_as_front-extend_from_slice
shared_ref_as_front-extend_from_slice c = subst (λ n. n ≤ 6) (sym c.field-field.ensures.width) (width_most c.args.packet.now.first)

pub returns : goal.returns
returns c =
    let same : take c.field-field.result.width c.field-field.result.bytes ≡ field c.args.packet.now c.args.hop = c.field-field.ensures.bytes in
    rw same at c.in_ok-extend_from_slice.ensures.items
