use Rattle.std.proofs.Common.{arith}
use Rattle.epic_ledger.specs.History.{emitted}
use Rattle.epic_actors.proofs.tests.ledger.Goals as goal

pub reserve-requires-clause-few_bytes : goal.reserve-requires-clause-few_bytes
unfolding emitted
reserve-requires-clause-few_bytes c = rw c.new-ledger.ensures.emissions (omega arith)
