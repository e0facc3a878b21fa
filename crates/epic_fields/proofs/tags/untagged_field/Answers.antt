use Rattle.std.proofs.Common.{◌≡◌, ap, sym, ◌∙◌}
use Rattle.epic_num.specs.declared.hop.Level.TheVariants.{L0, L1}
use Rattle.epic_num.specs.Levels.{level_of, width_of}
use Rattle.epic_layout.specs.Contents.{as_field, shape}
use Rattle.epic_fields.specs.Formulas.{field1}
use Rattle.epic_fields.specs.PacketTags.{field_by}
use Rattle.epic_fields.proofs.Stamps.{field_over-level, level_1, untagged_width}
use Rattle.epic_fields.proofs.tags.untagged_field.Goals as goal

pub returns-in-L0-clause-bytes : goal.returns-in-L0-clause-bytes
unfolding shape field_by
returns-in-L0-clause-bytes c = λ shared.
    let level : c.shape.result.level ≡ L0 = cc in
    let is : level_of c.args.packet.now.first ≡ L0 = sym (ap (λ s. s.level) c.shape.ensures.shape) ∙ level in
    c.narrow.ensures.bytes
    ∙ ap as_field (c.field0.ensures ∙ sym (field_over-level L0 shared c.args.sigma.now c.args.packet.now c.args.hop is))

pub returns-in-L0-clause-width : goal.returns-in-L0-clause-width
returns-in-L0-clause-width c =
    c.narrow.ensures.width ∙ sym (untagged_width c.args.packet.now.first c.shape.ensures.packet.exists c.requires)

pub returns-in_default : goal.returns-in_default
unfolding shape field_by
returns-in_default c =
    let p = c.args.packet.now in
    let s = c.args.sigma.now in
    let is : level_of p.first ≡ L1 =
    level_1 p.first c.shape.ensures.packet.exists c.requires (λ e. c.in_default.not-L0 (ap (λ r. r.level) c.shape.ensures.shape ∙ e)) in
    record {
      bytes = λ shared.
          c.narrow-in_default.ensures.bytes
          ∙ ap as_field (c.field1.ensures
          ∙ ((λ i. field1 s (c.ts.ensures i) (c.src.ensures i) c.args.hop) ∙ sym (field_over-level L1 shared s p c.args.hop is)));
      width = c.narrow-in_default.ensures.width ∙ sym (untagged_width p.first c.shape.ensures.packet.exists c.requires);
    }
