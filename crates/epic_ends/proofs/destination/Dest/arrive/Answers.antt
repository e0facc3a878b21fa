use Rattle.std.proofs.Common.{◌≡◌, subst}
use Rattle.epic_layout.specs.Layout.{parse}
use Rattle.epic_ends.specs.Arriving.{arrived}
use Rattle.epic_ends.specs.Destinations.{Destination, told_at}
use Rattle.epic_ends.proofs.Arrivals.{answered_to, fault_told, right_answer}
use Rattle.epic_ends.proofs.destination.Dest.arrive.Goals as goal

pub returns-in-Ok-clause-answer : goal.returns-in-Ok-clause-answer
returns-in-Ok-clause-answer c =
    let topo = c.args.topo.now in
    let packet = c.in-Ok.packet in
    let answer =
    subst (λ (d : Destination). c.arrived.result ≡ arrived topo d.host c.args.now (told_at d.window c.args.now packet) packet)
    c.self.view_is c.arrived.ensures.answer in
    answered_to topo c.args.self.now.host c.args.self.now.window c.args.now c.args.bytes.now packet c.arrived.result c.in-Ok.ensures answer

pub returns-in-Ok-clause-right : goal.returns-in-Ok-clause-right
returns-in-Ok-clause-right c =
    right_answer c.args.topo.now c.args.self.now.host c.args.now (told_at c.args.self.now.window c.args.now (parse c.args.bytes.now)) c.args.bytes.now _
    (returns-in-Ok-clause-answer c)

pub returns-in-Err-clause-answer : goal.returns-in-Err-clause-answer
returns-in-Err-clause-answer c =
    fault_told c.args.topo.now c.args.self.now.host c.args.now (told_at c.args.self.now.window c.args.now (parse c.args.bytes.now)) c.args.bytes.now c.in-Err.fault c.in-Err.ensures
