use Rattle.epic_audit.proofs.Calls.{hop_answer, hop_answer_holds}
use Rattle.epic_audit.proofs.verdict.verdict_hop.Goals as goal

pub returns-clause-verdict : goal.returns-clause-verdict
returns-clause-verdict c =
    hop_answer c.args.topo.now c.args.ledger.now.history c.args.a c.args.generation c.args.packet.now c.args.hop c.lines.result c.body.result
    c.events-events.ensures.lawful c.requires.kept c.body.ensures c.lines.ensures

pub returns-clause-exact : goal.returns-clause-exact
returns-clause-exact c =
    (hop_answer_holds c.args.topo.now c.args.ledger.now.history c.args.a c.args.generation c.args.packet.now c.args.hop c.lines.result c.body.result
    c.events-events.ensures.lawful c.requires.kept c.body.ensures c.lines.ensures
    (record { packet = c.shape-shape.ensures.packet; within = c.requires.within; field_right = c.requires.field_right; link_right = c.requires.link_right })).0

pub returns-clause-holds : goal.returns-clause-holds
returns-clause-holds c =
    (hop_answer_holds c.args.topo.now c.args.ledger.now.history c.args.a c.args.generation c.args.packet.now c.args.hop c.lines.result c.body.result
    c.events-events.ensures.lawful c.requires.kept c.body.ensures c.lines.ensures
    (record { packet = c.shape-shape.ensures.packet; within = c.requires.within; field_right = c.requires.field_right; link_right = c.requires.link_right })).1
