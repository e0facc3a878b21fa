use Rattle.std.proofs.Common.{◌≡◌, true, ap, sym, ◌∙◌}
use Rattle.epic_num.specs.Levels.{is_tagged}
use Rattle.epic_layout.specs.Contents.{as_field}
use Rattle.epic_fields.specs.Formulas.{field_part}
use Rattle.epic_fields.proofs.Stamps.{field_over-tagged}
use Rattle.epic_fields.proofs.tags.field_over.Goals as goal

pub returns-then-is_tagged-clause-bytes : goal.returns-then-is_tagged-clause-bytes
returns-then-is_tagged-clause-bytes c =
    let tagged : is_tagged c.args.packet.now.first ≡ true =
    ap is_tagged (sym c.first_byte-first.ensures) ∙ (sym c.is_tagged.ensures ∙ c.if-is_tagged.true) in
    c.field_part.ensures.bytes
    ∙ ap as_field ((λ i. field_part (c.first_byte-first.ensures i) (c.tag_over.ensures i))
    ∙ sym (field_over-tagged c.args.shared.now c.args.sigma.now c.args.packet.now c.args.hop tagged))
