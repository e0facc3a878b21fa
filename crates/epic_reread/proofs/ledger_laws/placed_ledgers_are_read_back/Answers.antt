use Rattle.epic_reread.proofs.PlacedItems.{placed_can_be_written, placed_ledgers_read}
use Rattle.epic_reread.proofs.ledger_laws.placed_ledgers_are_read_back.Goals as goal

pub returns-clause-written : goal.returns-clause-written
returns-clause-written c = placed_can_be_written

pub returns-clause-read : goal.returns-clause-read
returns-clause-read c = placed_ledgers_read
