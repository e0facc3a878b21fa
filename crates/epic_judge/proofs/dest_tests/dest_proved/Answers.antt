use Rattle.std.proofs.Common.{◌&&◌, ◌∙◌}
use Rattle.std.specs.Prelude.{◌==◌, is_none}
use Rattle.epic_num.specs.Levels.{is_tagged}
use Rattle.epic_ledger.specs.Facts.{facts_of}
use Rattle.epic_judge.proofs.DestLines.{proved_not_sent, proved_sent}
use Rattle.epic_judge.proofs.dest_tests.dest_proved.Goals as goal

pub uncovered_in-hop-requires-clause-sent : goal.uncovered_in-hop-requires-clause-sent
uncovered_in-hop-requires-clause-sent c = rw c.in-Some.is at c.sent_as.ensures

pub returns-in-Some : goal.returns-in-Some
returns-in-Some c =
    proved_sent c.args.index.now.history c.args.packet.now c.in-Some.sending c.args.send _ (rw c.in-Some.is at c.sent_as.ensures)
    (c.proves.ensures ∙ (λ i. is_tagged (c.first_byte.ensures i) && is_none (c.uncovered_in-hop.ensures.value i) && c.in-Some.sending.emission == c.args.send))

pub returns-in-None : goal.returns-in-None
returns-in-None c = proved_not_sent (facts_of c.args.index.now.history) c.args.packet.now c.args.send (rw c.in-None.is at c.sent_as.ensures)
