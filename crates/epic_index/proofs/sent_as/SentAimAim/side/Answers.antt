use Rattle.std.proofs.Common.{sym, ◌∙◌}
use Rattle.epic_index.proofs.SentOrder.{side_there, never_none}
use Rattle.epic_index.proofs.sent_as.SentAimAim.side.Goals as goal

pub unreachable-requires : goal.unreachable-requires
unreachable-requires c =
    let s = c.args.self.now in
    never_none s.ledger.now.history s.at.now c.args.at c.requires (sym c.in-None.is ∙ c.sent.ensures)

pub returns : goal.returns
returns c =
    let s = c.args.self.now in
    c.content_order.ensures
    ∙ side_there s.ledger.now.history s.at.now c.args.at s.packet.now (c.in-Some.field-0-0, c.in-Some.packet) c.requires (sym c.in-Some.is ∙ c.sent.ensures)
