use Rattle.std.proofs.Common.{sym, ◌∙◌}
use Rattle.epic_ledger.specs.Facts.{facts_of}
use Rattle.epic_index.specs.Events.{sent_at, sent_name_at, send_at}
use Rattle.epic_judge.proofs.SentAs.{over_is, over_none}
use Rattle.epic_judge.proofs.dest_sent.over_at.Goals as goal

pub returns-in-Some : goal.returns-in-Some
unfolding sent_at sent_name_at
returns-in-Some c =
    over_is c.args.index.now.network c.args.index.now.history c.args.packet.now c.args.hop c.args.number (c.in-Some.field-0-0, c.in-Some.sent) _ _ c.requires.facts
    c.shape-shape.ensures.packet c.shape-sent_shape.ensures.packet c.requires.sent (sym c.in-Some.is ∙ c.sent_at.ensures) c.sent_name_at-name.ensures c.name_if_over.ensures

pub returns-in-None : goal.returns-in-None
unfolding sent_at
returns-in-None c =
    over_none (facts_of c.args.index.now.history) c.args.packet.now c.args.hop (send_at c.args.index.now.history c.args.number) c.requires.sent (sym c.in-None.is ∙ c.sent_at.ensures)
