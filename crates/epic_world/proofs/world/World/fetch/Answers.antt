use Rattle.std.proofs.Common.{◌^◌, ◌-◌, ◌<◌, ◌≡◌, true, ◌+◌, ◌∙◌, sym, ap, subst, refl, arith}
use Rattle.std.specs.Prelude.{Ok}
use Rattle.epic_num.specs.declared.answer.Answer.TheVariants.{Fetched, Known}
use Rattle.epic_topo.specs.Network.{has}
use Rattle.epic_keys.specs.Fetches.{Fetches, Fetch, is_fetched}
use Rattle.epic_ledger.specs.History.{step_of}
use Rattle.epic_ledger.specs.declared.event.Event.{Event}
use Rattle.epic_ledger.specs.declared.event.Event.TheVariants as event
use Rattle.epic_beacon.specs.Store.{store_of}
use Rattle.epic_model.specs.Steps.{next_fetch}
use Rattle.epic_world.specs.Refining.{Refines, state_of}
use Rattle.epic_world.specs.Standing.{Standing}
use Rattle.epic_model.specs.State.{State}
use Rattle.epic_ledger.specs.OneMore.{with_event}
use Rattle.epic_world.specs.Stepped.{Steps}
use Rattle.epic_model.specs.Traces.{answered, recorded}
use Rattle.epic_world.proofs.Answering.{is_fetch, same_known, new_fetch, known_fetch}
use Rattle.epic_world.proofs.Refined.{fetched, later}
use Rattle.epic_world.proofs.world.World.fetch.Goals as goal

pub push-requires-clause-last : goal.push-requires-clause-last
unfolding step_of
push-requires-clause-last c =
    let w = c.self.inside in
    let h = c.reserve.new.self.history in
    let r = subst (Refines w.topo (store_of w.beacons) w.keys w.routers w.hosts w.sources w.moment w.steps) (sym c.reserve.ensures.history) c.self.invariant in
    later h.events w.steps (w.steps + 1) r.world.inv.sound.last (omega arith)

pub invariant_of-self-in-Ok-New : goal.invariant_of-self-in-Ok-New
invariant_of-self-in-Ok-New c =
    let w = c.self.inside in
    let limit : w.steps < 2 ^ 30 - 1 = subst (λ (v : Standing). v.state.steps < 2 ^ 30 - 1) (sym c.self.view_is) c.requires in
    let h = c.reserve.new.self.history in
    let r = subst (Refines w.topo (store_of w.beacons) w.keys w.routers w.hosts w.sources w.moment w.steps) (sym c.reserve.ensures.history) c.self.invariant in
    let f : Fetch = record { source = c.args.source; owner = c.args.owner; epoch = c.args.epoch } in
    let e : Event = event.Fetch (w.steps + 1) f.source f.owner f.epoch in
    let told : Fetches (is_fetched w.keys) (is_fetched c.fetch.new.self) f (Ok c.in-Ok-New.field-0) = c.in-Ok-New.ensures in
    let is = c.in-Ok-New.field-0-is in
    let fresh = subst (λ k. Fetches (is_fetched w.keys) (is_fetched c.fetch.new.self) f (Ok k)) is told in
    let unknown = sym (same_known w.topo (store_of w.beacons) w.keys w.routers w.hosts w.sources w.moment w.steps h r f) ∙ fresh.0 in
    let source : has w.topo f.source ≡ true = sym c.has.ensures ∙ c.if-not-has.false in
    let owner : has w.topo f.owner ≡ true = sym c.has-2.ensures ∙ c.if-not-has-2.false in
    let s = state_of w.moment w.steps h in
    let next_is = is_fetch w.topo s f.source f.owner f.epoch ∙ new_fetch w.topo s f.source f.owner f.epoch source owner unknown in
    let history : c.push.new.self.history ≡ with_event h e = λ i. record { events = c.push.ensures.events i; emissions = c.push.ensures.emissions i } in
    let g = c.goes_on.ensures in
    subst (Refines w.topo (store_of w.beacons) c.fetch.new.self w.routers w.hosts w.sources w.moment (w.steps + 1)) (sym history)
    (fetched w.topo (store_of w.beacons) w.keys w.routers w.hosts w.sources w.moment w.steps h r c.fetch.new.self f
    g.steps g.actors g.senders g.fetches g.topology (omega (arith, limit)) next_is fresh.1)

pub returns-in-Ok-New-clause-step : goal.returns-in-Ok-New-clause-step
returns-in-Ok-New-clause-step c =
    let w = c.self.inside in
    let s : State = record { moment = w.moment; steps = w.steps; history = w.ledger.history } in
    let f : Fetch = record { source = c.args.source; owner = c.args.owner; epoch = c.args.epoch } in
    let told : Fetches (is_fetched w.keys) (is_fetched c.fetch.new.self) f (Ok c.in-Ok-New.field-0) = c.in-Ok-New.ensures in
    let is = c.in-Ok-New.field-0-is in
    let fresh = subst (λ k. Fetches (is_fetched w.keys) (is_fetched c.fetch.new.self) f (Ok k)) is told in
    let unknown = sym (same_known w.topo (store_of w.beacons) w.keys w.routers w.hosts w.sources w.moment w.steps w.ledger.history c.self.invariant f) ∙ fresh.0 in
    let source : has w.topo f.source ≡ true = sym c.has.ensures ∙ c.if-not-has.false in
    let owner : has w.topo f.owner ≡ true = sym c.has-2.ensures ∙ c.if-not-has-2.false in
    let e : Event = event.Fetch (w.steps + 1) f.source f.owner f.epoch in
    let history : c.push.new.self.history ≡ with_event w.ledger.history e =
    (λ i. record { events = c.push.ensures.events i; emissions = c.push.ensures.emissions i }) ∙ ap (λ h. with_event h e) c.reserve.ensures.history in
    let new : State = record { moment = w.moment; steps = w.steps + 1; history = c.push.new.self.history } in
    let step : Steps (recorded s e Fetched) (Ok Fetched) s new = (refl, λ i. record { moment = w.moment; steps = w.steps + 1; history = history i }) in
    let here = subst (λ n. Steps n (Ok Fetched) s new) (sym (new_fetch w.topo s f.source f.owner f.epoch source owner unknown)) step in
    subst (λ (v : Standing). Steps (next_fetch v.network v.state f.source f.owner f.epoch) (Ok Fetched) v.state new) c.self.view_is here

pub returns-in-Ok-Known-clause-step : goal.returns-in-Ok-Known-clause-step
returns-in-Ok-Known-clause-step c =
    let w = c.self.inside in
    let s : State = record { moment = w.moment; steps = w.steps; history = w.ledger.history } in
    let f : Fetch = record { source = c.args.source; owner = c.args.owner; epoch = c.args.epoch } in
    let told : Fetches (is_fetched w.keys) (is_fetched c.fetch.new.self) f (Ok c.in-Ok-Known.field-0) = c.in-Ok-Known.ensures in
    let is = c.in-Ok-Known.field-0-is in
    let as_before = subst (λ k. Fetches (is_fetched w.keys) (is_fetched c.fetch.new.self) f (Ok k)) is told in
    let known = sym (same_known w.topo (store_of w.beacons) w.keys w.routers w.hosts w.sources w.moment w.steps w.ledger.history c.self.invariant f) ∙ as_before.0 in
    let source : has w.topo f.source ≡ true = sym c.has.ensures ∙ c.if-not-has.false in
    let owner : has w.topo f.owner ≡ true = sym c.has-2.ensures ∙ c.if-not-has-2.false in
    let new = c.answered.new.self.state in
    let step = subst (λ h. let b : State = record { moment = w.moment; steps = w.steps; history = h } in Steps (answered b Known) (Ok c.answered.result) b new) c.reserve.ensures.history c.answered.ensures.step in
    let here = subst (λ n. Steps n (Ok c.answered.result) s new) (sym (known_fetch w.topo s f.source f.owner f.epoch source owner known)) step in
    subst (λ (v : Standing). Steps (next_fetch v.network v.state f.source f.owner f.epoch) (Ok c.answered.result) v.state new) c.self.view_is here
