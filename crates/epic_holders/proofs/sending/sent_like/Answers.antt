use Rattle.std.proofs.Common.{sym, ◌∙◌}
use Rattle.epic_ledger.specs.Facts.{facts_of}
use Rattle.epic_holders.proofs.Sends.{like_read, like_none}
use Rattle.epic_holders.proofs.sending.sent_like.Goals as goal

pub returns-in-Some : goal.returns-in-Some
returns-in-Some c =
    c.if_like.ensures
    ∙ like_read c.args.ledger.now.history c.args.packet.now c.src.result c.ts.result c.in-Some.number c.packet.result c.requires c.src.ensures c.ts.ensures
    (sym c.in-Some.is ∙ c.send_of.ensures) c.packet.ensures

pub returns-in-None : goal.returns-in-None
returns-in-None c =
    like_none (facts_of c.args.ledger.now.history) c.args.packet.now c.src.result c.ts.result c.src.ensures c.ts.ensures (sym c.in-None.is ∙ c.send_of.ensures)
