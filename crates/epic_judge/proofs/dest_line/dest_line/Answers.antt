use Rattle.std.proofs.Common.{sym, ap, ◌∙◌}
use Rattle.epic_num.specs.Levels.{is_tagged}
use Rattle.epic_ledger.specs.Facts.{facts_of}
use Rattle.epic_judge.proofs.HopLines.{other_false}
use Rattle.epic_judge.proofs.DestLines.{dest_of_key, dest_told, never, only_then, told_message, untagged_dest}
use Rattle.epic_judge.proofs.dest_line.dest_line.Goals as goal

pub returns-then-not-is_tagged : goal.returns-then-not-is_tagged
returns-then-not-is_tagged c =
    other_false _ _ (untagged_dest c.args.index.now.network (facts_of c.args.index.now.history) c.args.packet.now (dest_of_key c.args.key.now)
    (sym (c.is_tagged.ensures ∙ ap is_tagged c.first_byte.ensures) ∙ c.if-not-is_tagged.true))

pub returns-then-not-tells_dest_forged : goal.returns-then-not-tells_dest_forged
returns-then-not-tells_dest_forged c =
    never _ _ (sym (dest_told c.args.index.now.network c.args.packet.now c.args.key.now c.args.what.now c.args.message.now c.args.tag.now) ∙ (sym c.tells_dest_forged.ensures ∙ c.if-not-tells_dest_forged.true))

pub dest_forged-requires-clause-message : goal.dest_forged-requires-clause-message
dest_forged-requires-clause-message c =
    told_message c.args.packet.now c.args.what.now c.args.message.now c.args.tag.now (sym c.tells_dest_forged.ensures ∙ c.if-not-tells_dest_forged.false)

pub returns : goal.returns
returns c =
    only_then _ _ c.dest_forged.result
    (sym (dest_told c.args.index.now.network c.args.packet.now c.args.key.now c.args.what.now c.args.message.now c.args.tag.now) ∙ (sym c.tells_dest_forged.ensures ∙ c.if-not-tells_dest_forged.false))
    c.dest_forged.ensures
