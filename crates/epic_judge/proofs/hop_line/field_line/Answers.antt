use Rattle.std.proofs.Common.{sym, ◌∙◌}
use Rattle.epic_ledger.specs.Facts.{facts_of}
use Rattle.epic_judge.proofs.HopLines.{other_false, other_true, field_of, field_owner, field_told, field_tagged}
use Rattle.epic_judge.proofs.hop_line.field_line.Goals as goal

pub returns-then-not-field_forged : goal.returns-then-not-field_forged
returns-then-not-field_forged c = other_false _ _ (sym c.field_forged.ensures ∙ c.if-not-field_forged.true)

pub tells_field_forged-requires-clause-owner : goal.tells_field_forged-requires-clause-owner
tells_field_forged-requires-clause-owner c =
    field_owner _ c.args.index.now.network (facts_of c.args.index.now.history) c.args.x.now c.args.packet.now c.args.hop (field_of c.args.hop c.args.key.now c.args.x.now.generation) c.topology.ensures c.requires.known (sym c.field_forged.ensures ∙ c.if-not-field_forged.false)

pub tells_field_forged-requires-clause-tagged : goal.tells_field_forged-requires-clause-tagged
tells_field_forged-requires-clause-tagged c =
    field_tagged c.args.index.now.network (facts_of c.args.index.now.history) c.args.x.now c.args.packet.now c.args.hop (field_of c.args.hop c.args.key.now c.args.x.now.generation) (sym c.field_forged.ensures ∙ c.if-not-field_forged.false)

pub returns : goal.returns
returns c =
    other_true _ _ c.tells_field_forged.result
    (field_told c.topology.result.now c.args.index.now.network c.args.packet.now c.args.hop c.args.key.now c.args.x.now.generation c.args.what.now c.args.message.now c.args.tag.now _ c.topology.ensures c.tells_field_forged.ensures)
    (sym c.field_forged.ensures ∙ c.if-not-field_forged.false)
