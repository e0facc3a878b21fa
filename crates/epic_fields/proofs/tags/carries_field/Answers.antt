use Rattle.std.proofs.Common.{◌≡◌, ◌≤◌, ap, subst, sym, ◌∙◌, rules}
use Rattle.std.specs.Prelude.{bytes_eq}
use Rattle.epic_layout.specs.Contents.{field_bytes}
use Rattle.epic_layout.proofs.Offsets.{width_most}
use Rattle.epic_fields.specs.HopChecks.{carries_field}
use Rattle.epic_fields.proofs.tags.carries_field.Goals as goal

pub counted_bytes-requires : goal.counted_bytes-requires
counted_bytes-requires c = subst (λ n. n ≤ 6) (sym c.field-carried.ensures.width) (width_most c.args.packet.now.first)

pub returns : goal.returns
unfolding carries_field
returns c =
    let same : c.eq.result ≡ bytes_eq (field_bytes c.field-carried.result) (field_bytes c.args.right.now) = search rules in
    same ∙ ap (λ v. bytes_eq v (field_bytes c.args.right.now)) c.field-carried.ensures.bytes
