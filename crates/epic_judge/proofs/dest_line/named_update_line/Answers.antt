use Rattle.std.proofs.Common.{sym, ap, subst, ◌∙◌}
use Rattle.std.specs.Prelude.{IsTrue}
use Rattle.epic_num.specs.Levels.{is_updated}
use Rattle.epic_num.proofs.LevelLaws.{updated_tagged}
use Rattle.epic_num.proofs.SameLaws.{same_name-Decides}
use Rattle.epic_num.specs.declared.hop.HopName.{HopName}
use Rattle.epic_topo.specs.Network.{has}
use Rattle.epic_ledger.specs.Facts.{facts_of}
use Rattle.epic_judge.proofs.HopLines.{other_false, other_true}
use Rattle.epic_judge.proofs.DestLines.{no_update_level, no_update_named, update_by, update_of_key, update_owner, update_told}
use Rattle.epic_judge.proofs.dest_line.named_update_line.Goals as goal

pub returns-then-not-is_updated : goal.returns-then-not-is_updated
returns-then-not-is_updated c =
    other_false _ _ (no_update_level c.args.index.now.network (facts_of c.args.index.now.history) c.args.packet.now (update_of_key c.args.hop c.args.key.now c.args.name.now.generation)
    (sym (c.is_updated.ensures ∙ ap is_updated c.first_byte.ensures) ∙ c.if-not-is_updated.true))

pub meant_hop-x-requires : goal.meant_hop-x-requires
meant_hop-x-requires c = c.requires.sent.within

pub returns-then-not-same_name : goal.returns-then-not-same_name
returns-then-not-same_name c =
    other_false _ _
    (no_update_named c.args.index.now.network (facts_of c.args.index.now.history) c.args.packet.now (update_of_key c.args.hop c.args.key.now c.args.name.now.generation) c.meant_hop-x.result c.args.name.now
    c.meant_hop-x.ensures c.requires.sent.name_is (sym c.same_name.ensures ∙ c.if-not-same_name.true))

pub update_forged-requires-clause-known : goal.update_forged-requires-clause-known
update_forged-requires-clause-known c =
    subst (λ (x : HopName). IsTrue (has c.args.index.now.network x.asn)) ((same_name-Decides c.args.name.now c.meant_hop-x.result).0 (sym c.same_name.ensures ∙ c.if-not-same_name.false)) c.requires.sent.known

pub update_forged-requires-clause-within : goal.update_forged-requires-clause-within
update_forged-requires-clause-within c = c.requires.sent.within

pub update_forged-requires-clause-tagged : goal.update_forged-requires-clause-tagged
update_forged-requires-clause-tagged c = updated_tagged c.args.packet.now.first c.shape-shape.ensures.packet.exists (sym (c.is_updated.ensures ∙ ap is_updated c.first_byte.ensures) ∙ c.if-not-is_updated.false)

pub returns-then-not-update_forged : goal.returns-then-not-update_forged
returns-then-not-update_forged c =
    other_false _ _
    (sym (update_by c.args.index.now.network (facts_of c.args.index.now.history) c.args.packet.now (update_of_key c.args.hop c.args.key.now c.args.name.now.generation) c.meant_hop-x.result c.args.name.now _
    c.meant_hop-x.ensures c.requires.sent.name_is (sym (c.is_updated.ensures ∙ ap is_updated c.first_byte.ensures) ∙ c.if-not-is_updated.false) (sym c.same_name.ensures ∙ c.if-not-same_name.false) c.update_forged.ensures)
    ∙ c.if-not-update_forged.true)

pub tells_update_forged-requires-clause-hop : goal.tells_update_forged-requires-clause-hop
tells_update_forged-requires-clause-hop c = c.requires.sent.within

pub tells_update_forged-requires-clause-owner : goal.tells_update_forged-requires-clause-owner
tells_update_forged-requires-clause-owner c =
    update_owner _ c.args.index.now.network c.args.key.now c.args.name.now.generation c.args.packet.now c.args.hop c.meant_hop-x.result c.args.name.now
    c.topology.ensures c.meant_hop-x.ensures (sym c.same_name.ensures ∙ c.if-not-same_name.false) c.requires.sent.known

pub tells_update_forged-requires-clause-tagged : goal.tells_update_forged-requires-clause-tagged
tells_update_forged-requires-clause-tagged c = updated_tagged c.args.packet.now.first c.shape-shape.ensures.packet.exists (sym (c.is_updated.ensures ∙ ap is_updated c.first_byte.ensures) ∙ c.if-not-is_updated.false)

pub returns : goal.returns
returns c =
    other_true _ _ c.tells_update_forged.result
    (update_told c.topology.result.now c.args.index.now.network c.args.packet.now c.args.hop c.args.key.now c.args.name.now.generation c.args.message.now c.args.tag.now _ c.topology.ensures c.tells_update_forged.ensures)
    (sym (update_by c.args.index.now.network (facts_of c.args.index.now.history) c.args.packet.now (update_of_key c.args.hop c.args.key.now c.args.name.now.generation) c.meant_hop-x.result c.args.name.now _
    c.meant_hop-x.ensures c.requires.sent.name_is (sym (c.is_updated.ensures ∙ ap is_updated c.first_byte.ensures) ∙ c.if-not-is_updated.false) (sym c.same_name.ensures ∙ c.if-not-same_name.false) c.update_forged.ensures)
    ∙ c.if-not-update_forged.false)
