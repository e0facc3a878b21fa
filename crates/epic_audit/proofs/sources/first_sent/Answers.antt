use Rattle.std.proofs.Common.{sym, ◌∙◌}
use Rattle.epic_audit.proofs.Narrowed.{first_read}
use Rattle.epic_audit.proofs.sources.first_sent.Goals as goal

pub returns-in-Some : goal.returns-in-Some
returns-in-Some c =
    first_read c.args.ledger.now.history c.args.packet.now c.src.result c.ts.result c.in_ok-number.number _ c.requires c.src.ensures c.ts.ensures
    (sym c.in_ok-number.was ∙ c.send_of.ensures) (sym c.in-Some.is ∙ c.packet.ensures)

pub returns-in-None : goal.returns-in-None
returns-in-None c =
    first_read c.args.ledger.now.history c.args.packet.now c.src.result c.ts.result c.in_ok-number.number _ c.requires c.src.ensures c.ts.ensures
    (sym c.in_ok-number.was ∙ c.send_of.ensures) (sym c.in-None.is ∙ c.packet.ensures)
