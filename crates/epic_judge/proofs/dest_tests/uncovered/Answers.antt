use Rattle.epic_ledger.specs.Facts.{facts_of}
use Rattle.epic_judge.proofs.DestLines.{none_uncovered}
use Rattle.epic_judge.proofs.dest_tests.uncovered.Goals as goal

pub returns-in-None-clause-value : goal.returns-in-None-clause-value
returns-in-None-clause-value c = none_uncovered (facts_of c.args.index.now.history) c.args.packet.now (rw c.in-None.is at c.sent_as.ensures)
