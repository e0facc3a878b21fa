use Rattle.std.proofs.Common.{◌≡◌, ◌≤◌, sym, subst, ◌∙◌}
use Rattle.epic_layout.proofs.Offsets.{width_most}
use Rattle.epic_num.proofs.LevelLaws.{updated_tagged}
use Rattle.epic_router.specs.Candidates.{field_fits}
use Rattle.epic_router.proofs.ReadyLaws.{ready_key, field_by_ready, update_by_ready, both_fit, neither_fits}
use Rattle.epic_router.proofs.TagLaws.{link_by_key}
use Rattle.epic_router.proofs.tags.Visit.fit.Goals as goal
use Rattle.epic_router.proofs.tags.Visit.fit.Goals.{After-carries_field-field, then-field, else-field}

field : (c : After-carries_field-field)
    → c.carries_field-field.result ≡ field_fits c.args.self.now.topo.now c.args.self.now.a c.args.self.now.packet.now c.args.j c.args.key.now.number
field c =
    c.carries_field-field.ensures
    ∙ field_by_ready c.args.self.now.topo.now c.args.self.now.a c.args.key.now.number c.args.self.now.packet.now c.args.j _ _ _ _
    (record { key_is = ready_key _ _ _ _ c.requires.master; body_is = c.body-body.ensures }) c.authenticator_and_link_tag.ensures.authenticator
    (c.hop_tags-tags.ensures.field _ c.args.self.now.ready.shared_is.key_is)

pub carries_field-field-requires-clause-width : goal.carries_field-field-requires-clause-width
carries_field-field-requires-clause-width c =
    subst (λ n. n ≤ 6) (sym c.hop_tags-tags.ensures.field_width) (width_most c.args.self.now.packet.now.first)

pub returns-clause-field : goal.returns-clause-field
returns-clause-field c = field (goal.at.returns-clause-field c).After-carries_field-field

pub returns-clause-both : goal.returns-clause-both
returns-clause-both c =
    let d = (goal.at.returns-clause-both c).After-carries_field-field in
    let is = field d in
    elim c.if-field.branch [
      | then-field w ↦ w.result-is ∙ (w.carries_link.ensures
          ∙ link_by_key d.args.self.now.topo.now d.args.self.now.a d.args.key.now.number d.args.self.now.packet.now d.args.j _ _ _
          (record { key_is = ready_key _ _ _ _ d.requires.master; body_is = d.body-body.ensures }) d.authenticator_and_link_tag.ensures.link_tag
          ∙ both_fit _ _ _ _ _ (sym is ∙ w.if-field.true))
      | else-field w ↦ w.result-is ∙ (w.if-field.false ∙ neither_fits _ _ _ _ _ (sym is ∙ w.if-field.false))
    ]

pub returns-clause-update : goal.returns-clause-update
returns-clause-update c = λ updated.
    let tagged = updated_tagged _ c.args.self.now.ready.packet.exists updated in
    update_by_ready c.args.self.now.topo.now c.args.self.now.a c.args.key.now.number c.args.self.now.packet.now c.args.j _ _ _ _ _
    (record { key_is = ready_key _ _ _ _ c.requires.master; body_is = c.body-body.ensures }) c.authenticator_and_link_tag.ensures.authenticator
    (c.args.self.now.ready.shared_is.key_is tagged) (c.hop_tags-tags.ensures.update tagged)
