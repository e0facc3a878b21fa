use Rattle.epic_ledger.specs.Facts.{facts_of}
use Rattle.epic_judge.proofs.DestLines.{absent, ok_not_sent, ok_sent}
use Rattle.epic_judge.proofs.dest_tests.dest_ok.Goals as goal

pub uncovered_in-hop-requires-clause-sent : goal.uncovered_in-hop-requires-clause-sent
uncovered_in-hop-requires-clause-sent c = rw c.in-Some.is at c.sent_as.ensures

pub returns-in-Some : goal.returns-in-Some
returns-in-Some c =
    ok_sent c.args.index.now.history c.args.packet.now c.in-Some.sending c.uncovered_in-hop.result _ (rw c.in-Some.is at c.sent_as.ensures) c.uncovered_in-hop.ensures.value (absent c.uncovered_in-hop.result c.is_none.result c.is_none.ensures)

pub returns-in-None : goal.returns-in-None
returns-in-None c = ok_not_sent (facts_of c.args.index.now.history) c.args.packet.now (rw c.in-None.is at c.sent_as.ensures)
