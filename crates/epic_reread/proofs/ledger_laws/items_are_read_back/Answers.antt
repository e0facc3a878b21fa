use Rattle.epic_reread.proofs.LedgerForms.{items_read}
use Rattle.epic_reread.proofs.ledger_laws.items_are_read_back.Goals as goal

pub returns : goal.returns
returns c = items_read
