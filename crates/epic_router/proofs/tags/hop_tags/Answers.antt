use Rattle.std.proofs.Common.{◌≡◌, ℕ, List, true, ap, sym, subst, ◌∙◌}
use Rattle.epic_num.specs.Levels.{is_tagged}
use Rattle.epic_layout.specs.Contents.{as_field}
use Rattle.epic_fields.specs.Formulas.{field_part, update_part}
use Rattle.epic_fields.specs.PacketTags.{field_over, update_over}
use Rattle.epic_fields.proofs.Stamps.{field_over-tagged}
use Rattle.epic_router.proofs.tags.hop_tags.Goals as goal

pub returns-then-is_tagged-clause-field : goal.returns-then-is_tagged-clause-field
returns-then-is_tagged-clause-field c = λ key same.
    let p = c.args.packet.now in
    let tagged : is_tagged p.first ≡ true =
    ap is_tagged (sym c.first_byte-first.ensures) ∙ (sym c.is_tagged.ensures ∙ c.if-is_tagged.true) in
    subst (λ (k : List ℕ). c.field_part.result ≡ as_field (field_over k c.args.sigma.now p c.args.j)) (same tagged)
    (c.field_part.ensures.bytes
    ∙ ap as_field ((λ i. field_part (c.first_byte-first.ensures i) (c.tag_over_by-tag.ensures i))
    ∙ sym (field_over-tagged c.args.shared.now c.args.sigma.now p c.args.j tagged)))

pub returns-then-is_tagged-clause-update : goal.returns-then-is_tagged-clause-update
unfolding update_over
returns-then-is_tagged-clause-update c = λ tagged.
    c.update_part.ensures.bytes
    ∙ ap as_field (λ i. update_part (c.first_byte-first.ensures i) (c.tag_over_by-tag.ensures i))
