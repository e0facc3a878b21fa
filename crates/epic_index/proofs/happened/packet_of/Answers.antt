use Rattle.std.proofs.Common.{sym, ◌∙◌}
use Rattle.epic_audit.proofs.Passed.{packet_is}
use Rattle.epic_index.proofs.happened.packet_of.Goals as goal

pub returns : goal.returns
returns c = packet_is c.args.ledger.now.history.emissions c.args.emission c.in-Some.packet (sym c.in-Some.is ∙ c.packet.ensures)
