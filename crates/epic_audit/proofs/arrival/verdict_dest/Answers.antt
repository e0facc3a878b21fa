use Rattle.epic_audit.proofs.Calls.{dest_answer, dest_answer_holds}
use Rattle.epic_audit.proofs.arrival.verdict_dest.Goals as goal

pub returns-clause-verdict : goal.returns-clause-verdict
returns-clause-verdict c =
    dest_answer c.args.topo.now c.args.ledger.now.history c.args.packet.now c.lines.result c.events-events.ensures.lawful c.requires.kept c.lines.ensures

pub returns-clause-exact : goal.returns-clause-exact
returns-clause-exact c =
    (dest_answer_holds c.args.topo.now c.args.ledger.now.history c.args.packet.now c.lines.result c.events-events.ensures.lawful c.requires.kept c.lines.ensures
    (record { packet = c.shape-shape.ensures.packet; dest_field_right = c.requires.dest_field_right })).0

pub returns-clause-holds : goal.returns-clause-holds
returns-clause-holds c =
    (dest_answer_holds c.args.topo.now c.args.ledger.now.history c.args.packet.now c.lines.result c.events-events.ensures.lawful c.requires.kept c.lines.ensures
    (record { packet = c.shape-shape.ensures.packet; dest_field_right = c.requires.dest_field_right })).1
