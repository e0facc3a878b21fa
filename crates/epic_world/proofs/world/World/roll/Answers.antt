use Rattle.std.proofs.Common.{◌^◌, ◌-◌, ◌<◌, ◌≡◌, true, ◌+◌, ◌∙◌, refl, sym, ap, subst, arith}
use Rattle.std.specs.Prelude.{Ok}
use Rattle.std.proofs.lemmas.List.Sums.{count_by-le-length}
use Rattle.epic_num.specs.declared.answer.Answer.TheVariants.{Rolled}
use Rattle.epic_topo.specs.Network.{has}
use Rattle.epic_beacon.specs.Store.{store_of}
use Rattle.epic_ledger.specs.History.{step_of}
use Rattle.epic_ledger.specs.OneMore.{with_event}
use Rattle.epic_ledger.specs.declared.event.Event.{Event}
use Rattle.epic_ledger.specs.declared.event.Event.TheVariants as event
use Rattle.epic_model.specs.Passing.{is_roll as rolls_of, rolls}
use Rattle.epic_model.specs.State.{State}
use Rattle.epic_model.specs.Steps.{next_roll}
use Rattle.epic_model.specs.Traces.{recorded}
use Rattle.epic_world.specs.Refining.{Refines, state_of}
use Rattle.epic_world.specs.Standing.{Standing}
use Rattle.epic_world.specs.Stepped.{Steps}
use Rattle.epic_world.proofs.Answering.{is_roll, known_roll}
use Rattle.epic_world.proofs.Refined.{later, rolled, rolled_as}
use Rattle.epic_world.proofs.world.World.roll.Goals as goal

pub roll-requires : goal.roll-requires
roll-requires c =
    let w = c.self.inside in
    let limit : w.steps < 2 ^ 30 - 1 = subst (λ (v : Standing). v.state.steps < 2 ^ 30 - 1) (sym c.self.view_is) c.requires in
    let same = rolled_as w.topo w.ledger.history (store_of w.beacons) c.args.a c.self.invariant.stored in
    let few = count_by-le-length (rolls_of c.args.a) w.ledger.history.events in
    let bound = c.self.invariant.few_events in
    let emissions = c.self.invariant.few_emissions in
    let bytes = c.self.invariant.few_bytes in
    omega (arith, same, few, bound, emissions, bytes, limit)

pub push-requires-clause-last : goal.push-requires-clause-last
unfolding step_of
push-requires-clause-last c =
    let w = c.self.inside in
    let h = c.reserve.new.self.history in
    let r = subst (Refines w.topo (store_of w.beacons) w.keys w.routers w.hosts w.sources w.moment w.steps) (sym c.reserve.ensures.history) c.self.invariant in
    later h.events w.steps (w.steps + 1) r.world.inv.sound.last (omega arith)

pub invariant_of-self-in-Ok : goal.invariant_of-self-in-Ok
invariant_of-self-in-Ok c =
    let w = c.self.inside in
    let limit : w.steps < 2 ^ 30 - 1 = subst (λ (v : Standing). v.state.steps < 2 ^ 30 - 1) (sym c.self.view_is) c.requires in
    let h = c.reserve.new.self.history in
    let r = subst (Refines w.topo (store_of w.beacons) w.keys w.routers w.hosts w.sources w.moment w.steps) (sym c.reserve.ensures.history) c.self.invariant in
    let a = c.args.a in
    let no = c.in-Ok.generation in
    let e : Event = event.Roll (w.steps + 1) a no in
    let known : has w.topo a ≡ true = sym c.has.ensures ∙ c.if-not-has.false in
    let number : no ≡ rolls h.events a + 1 = c.in-Ok.ensures.0 ∙ ap (λ k. k + 1) (rolled_as w.topo h (store_of w.beacons) a r.stored) in
    let s = state_of w.moment w.steps h in
    let next_is = is_roll w.topo s a ∙ (known_roll w.topo s a known ∙ ap (λ k. recorded s (event.Roll (w.steps + 1) a k) (Rolled k)) (sym number)) in
    let history : c.push.new.self.history ≡ with_event h e = λ i. record { events = c.push.ensures.events i; emissions = c.push.ensures.emissions i } in
    let g = c.goes_on.ensures in
    subst (Refines w.topo (store_of c.roll.new.self) w.keys w.routers w.hosts w.sources w.moment (w.steps + 1)) (sym history)
    (rolled w.topo (store_of w.beacons) w.keys w.routers w.hosts w.sources w.moment w.steps h r (store_of c.roll.new.self) a no
    g.steps g.actors g.senders g.topology (omega (arith, limit)) next_is c.in-Ok.ensures.1)

pub returns-in-Ok-clause-step : goal.returns-in-Ok-clause-step
returns-in-Ok-clause-step c =
    let w = c.self.inside in
    let s : State = record { moment = w.moment; steps = w.steps; history = w.ledger.history } in
    let a = c.args.a in
    let no = c.in-Ok.generation in
    let e : Event = event.Roll (w.steps + 1) a no in
    let known : has w.topo a ≡ true = sym c.has.ensures ∙ c.if-not-has.false in
    let number : no ≡ rolls w.ledger.history.events a + 1 = c.in-Ok.ensures.0 ∙ ap (λ k. k + 1) (rolled_as w.topo w.ledger.history (store_of w.beacons) a c.self.invariant.stored) in
    let next_is = known_roll w.topo s a known ∙ ap (λ k. recorded s (event.Roll (w.steps + 1) a k) (Rolled k)) (sym number) in
    let history : c.push.new.self.history ≡ with_event w.ledger.history e =
    (λ i. record { events = c.push.ensures.events i; emissions = c.push.ensures.emissions i }) ∙ ap (λ h. with_event h e) c.reserve.ensures.history in
    let new : State = record { moment = w.moment; steps = w.steps + 1; history = c.push.new.self.history } in
    let step : Steps (recorded s e (Rolled no)) (Ok (Rolled no)) s new = (refl, λ i. record { moment = w.moment; steps = w.steps + 1; history = history i }) in
    let here = subst (λ n. Steps n (Ok (Rolled no)) s new) (sym next_is) step in
    subst (λ (v : Standing). Steps (next_roll v.network v.state a) (Ok (Rolled no)) v.state new) c.self.view_is here
