use Rattle.std.proofs.Common.{refl}
use Rattle.epic_ledger.specs.Facts.{facts_of}
use Rattle.epic_holders.proofs.Sends.{known_hop}
use Rattle.epic_holders.proofs.Worth.{answer, answer_holds}
use Rattle.epic_holders.proofs.maker.maker_of.Goals as goal

pub returns-clause-verdict : goal.returns-clause-verdict
returns-clause-verdict c =
    answer c.args.topo.now c.args.ledger.now.history c.args.a c.args.generation c.args.packet.now c.args.hop c.lines.result c.body.result
    c.events-events.ensures.lawful c.requires.kept c.body.ensures c.lines.ensures

pub returns-clause-exact : goal.returns-clause-exact
returns-clause-exact c =
    (answer_holds c.args.topo.now c.args.ledger.now.history c.args.a c.args.generation c.args.packet.now c.args.hop c.lines.result c.body.result
    c.events-events.ensures.lawful c.requires.kept c.body.ensures c.lines.ensures
    (record { packet = c.shape-shape.ensures.packet; within = c.requires.within; field_right = c.requires.field_right; link_right = c.requires.link_right })
    c.requires.level).0

pub returns-clause-holds : goal.returns-clause-holds
returns-clause-holds c =
    (answer_holds c.args.topo.now c.args.ledger.now.history c.args.a c.args.generation c.args.packet.now c.args.hop c.lines.result c.body.result
    c.events-events.ensures.lawful c.requires.kept c.body.ensures c.lines.ensures
    (record { packet = c.shape-shape.ensures.packet; within = c.requires.within; field_right = c.requires.field_right; link_right = c.requires.link_right })
    c.requires.level).1

pub lines-requires-clause-sent : goal.lines-requires-clause-sent
lines-requires-clause-sent c =
    known_hop c.args.topo.now (facts_of c.args.ledger.now.history) c.args.packet.now c.args.hop _ c.requires.kept.issues refl
