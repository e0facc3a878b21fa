use Rattle.std.proofs.Common.{sym, ◌∙◌}
use Rattle.epic_audit.proofs.Calls.{sent_hops}
use Rattle.epic_audit.proofs.arrival.lines.Goals as goal

pub sent-requires-clause-hops : goal.sent-requires-clause-hops
sent-requires-clause-hops c =
    sent_hops c.args.ledger.now.history c.args.packet.now c.in-Some.number c.in-Some.hops c.requires.lawful c.shape-shape.ensures.packet
    (sym c.sent_as.ensures ∙ c.in-Some.is)
