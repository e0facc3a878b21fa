use Rattle.std.proofs.Common.{◌+◌, ◌-◌, ◌<◌, ◌^◌, ◌∙◌, sym, subst, arith}
use Rattle.std.specs.Prelude.{IsTrue, Ok}
use Rattle.epic_topo.specs.Network.{has}
use Rattle.epic_beacon.specs.Store.{store_of}
use Rattle.epic_model.specs.Steps.{over_path}
use Rattle.epic_actors.specs.Sources.{IsPathOver}
use Rattle.epic_world.specs.Refining.{Refines, state_of}
use Rattle.epic_world.specs.Standing.{Standing}
use Rattle.epic_world.specs.Stepped.{Steps}
use Rattle.epic_world.proofs.Sent.{resourced, sent_over, state_is}
use Rattle.epic_world.proofs.world.World.send_over.Goals as goal

pub invariant_of-self-in_err-ready : goal.invariant_of-self-in_err-ready
invariant_of-self-in_err-ready c =
    let w = c.self.inside in
    let h = c.reserve.new.self.history in
    let r = subst (Refines w.topo (store_of w.beacons) w.keys w.routers w.hosts w.sources w.moment w.steps) (sym c.reserve.ensures.history) c.self.invariant in
    resourced w.topo (store_of w.beacons) w.keys w.routers w.hosts w.sources w.moment w.steps h r c.ready.new.self (c.ready.ensures.stand h r.sourced)

pub send_at-requires-clause-stand : goal.send_at-requires-clause-stand
send_at-requires-clause-stand c =
    let w = c.self.inside in
    let h = c.reserve.new.self.history in
    let r = subst (Refines w.topo (store_of w.beacons) w.keys w.routers w.hosts w.sources w.moment w.steps) (sym c.reserve.ensures.history) c.self.invariant in
    c.ready.ensures.stand h r.sourced

pub invariant_of-self-2 : goal.invariant_of-self-2
invariant_of-self-2 c =
    let w = c.self.inside in
    let h = c.reserve.new.self.history in
    let r = subst (Refines w.topo (store_of w.beacons) w.keys w.routers w.hosts w.sources w.moment w.steps) (sym c.reserve.ensures.history) c.self.invariant in
    let limit : w.steps < 2 ^ 30 - 1 = subst (λ (v : Standing). v.state.steps < 2 ^ 30 - 1) (sym c.self.view_is) c.requires.few in
    let source = subst (λ (v : Standing). IsTrue (has v.network c.args.src.asn)) (sym c.self.view_is) c.requires.source in
    let destination = subst (λ (v : Standing). IsTrue (has v.network c.args.dst.asn)) (sym c.self.view_is) c.requires.destination in
    let legs = c.args.path.now.legs.items in
    let numbers = c.args.numbers in
    let over_now = subst (λ (v : Standing). IsPathOver v.network v.state.history c.args.src numbers.items legs) (sym c.self.view_is) c.requires.over in
    let over = subst (λ k. IsPathOver w.topo k c.args.src numbers.items legs) (sym c.reserve.ensures.history) over_now in
    let g = c.sends_go_on.ensures in
    sent_over w.topo (store_of w.beacons) w.keys w.routers w.hosts w.sources w.moment w.steps h r c.send_at.new.sources
    c.args.version c.args.level c.args.src c.args.dst numbers c.args.payload.now legs c.send_at.new.ledger.history
    g.steps g.actors g.keys g.topology (omega (arith, limit)) c.requires.exists g.source g.destination g.payload
    source destination over c.in_ok-answer.ensures.history c.send_at.ensures.stand

pub returns-clause-step : goal.returns-clause-step
returns-clause-step c =
    let w = c.self.inside in
    let h = c.reserve.new.self.history in
    let s = state_of w.moment w.steps h in
    let legs = c.args.path.now.legs.items in
    let new = state_of w.moment (w.steps + 1) c.send_at.new.ledger.history in
    let answer = c.in_ok-answer.answer in
    let here : Steps (over_path w.topo s c.args.version c.args.level c.args.src c.args.dst c.args.numbers c.args.payload.now (Ok legs)) (Ok answer) s new = (
      c.in_ok-answer.ensures.answer,
      (λ i. state_of w.moment (w.steps + 1) (c.in_ok-answer.ensures.history i))
          ∙ sym (state_is w.topo s c.args.version c.args.level c.args.src c.args.dst c.args.numbers c.args.payload.now legs),
    ) in
    let was = subst (λ k. (let b = state_of w.moment w.steps k in Steps (over_path w.topo b c.args.version c.args.level c.args.src c.args.dst c.args.numbers c.args.payload.now (Ok legs)) (Ok answer) b new)) c.reserve.ensures.history here in
    subst (λ (v : Standing). Steps (over_path v.network v.state c.args.version c.args.level c.args.src c.args.dst c.args.numbers c.args.payload.now (Ok legs)) (Ok answer) v.state new) c.self.view_is was
