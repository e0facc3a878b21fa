use Rattle.epic_reread.proofs.LedgerFiles.{ledgers_read}
use Rattle.epic_reread.proofs.ledger_laws.ledgers_are_read_back.Goals as goal

pub returns : goal.returns
returns c = ledgers_read
