use Rattle.epic_ledger.specs.Facts.{Sent, facts_of}
use Rattle.std.proofs.Common.{sym, ◌∙◌}
use Rattle.epic_index.proofs.FieldKeys.{sender_known}
use Rattle.epic_index.proofs.fields.add_hop.Goals as goal

pub message_key-requires-clause-known : goal.message_key-requires-clause-known
message_key-requires-clause-known c =
    let s : Sent = record { emission = 0; segments = c.args.segments.now; packet = c.args.packet.now } in
    sender_known c.args.topo.now (facts_of c.args.ledger.now.history).issues s c.args.hop _ c.requires.known (sym c.in-Some.is ∙ c.name_over.ensures 0)
