use Rattle.std.proofs.Common.{◌^◌, ◌-◌, ◌<◌, ◌≡◌, true, false, ◌+◌, ◌∙◌, sym, ap, subst, arith}
use Rattle.epic_num.specs.declared.key_name.Holder.{Holder}
use Rattle.epic_topo.specs.Network.{has}
use Rattle.epic_beacon.specs.Store.{store_of}
use Rattle.epic_ledger.specs.Facts.{reveals_in}
use Rattle.epic_ledger.specs.History.{step_of}
use Rattle.epic_ledger.specs.OneMore.{with_event}
use Rattle.epic_ledger.specs.declared.event.Event.{Event}
use Rattle.epic_ledger.specs.declared.event.Event.TheVariants as event
use Rattle.epic_audit.specs.Reveals.{is_revealed}
use Rattle.epic_model.specs.Steps.{as_of}
use Rattle.epic_world.specs.Standing.{Standing}
use Rattle.epic_world.specs.Refining.{Refines, state_of}
use Rattle.epic_world.proofs.Answering.{is_reveal, new_reveal}
use Rattle.epic_world.proofs.Refined.{later, revealed}
use Rattle.epic_world.proofs.world.World.reveal.Goals as goal

pub push-requires-clause-last : goal.push-requires-clause-last
unfolding step_of
push-requires-clause-last c =
    let w = c.self.inside in
    let h = c.reserve.new.self.history in
    let r = subst (Refines w.topo (store_of w.beacons) w.keys w.routers w.hosts w.sources w.moment w.steps) (sym c.reserve.ensures.history) c.self.invariant in
    later h.events w.steps (w.steps + 1) r.world.inv.sound.last (omega arith)

pub invariant_of-self-2 : goal.invariant_of-self-2
invariant_of-self-2 c =
    let w = c.self.inside in
    let limit : w.steps < 2 ^ 30 - 1 = subst (λ (v : Standing). v.state.steps < 2 ^ 30 - 1) (sym c.self.view_is) c.requires in
    let h = c.reserve.new.self.history in
    let r = subst (Refines w.topo (store_of w.beacons) w.keys w.routers w.hosts w.sources w.moment w.steps) (sym c.reserve.ensures.history) c.self.invariant in
    let holder : Holder = c.args.holder in
    let e : Event = event.Reveal (w.steps + 1) holder in
    let known : has w.topo (as_of holder) ≡ true = ap (has w.topo) (sym c.as_of-a.ensures) ∙ (sym c.has.ensures ∙ c.if-not-has.false) in
    let fresh : is_revealed (reveals_in h.events) holder ≡ false = ap (λ g. is_revealed (reveals_in g.events) holder) c.reserve.ensures.history ∙ (sym c.is_revealed.ensures ∙ c.if-is_revealed.false) in
    let s = state_of w.moment w.steps h in
    let next_is = is_reveal w.topo s holder ∙ new_reveal w.topo s holder known fresh in
    let history : c.push.new.self.history ≡ with_event h e = λ i. record { events = c.push.ensures.events i; emissions = c.push.ensures.emissions i } in
    let g = c.goes_on.ensures in
    subst (Refines w.topo (store_of w.beacons) w.keys w.routers w.hosts w.sources w.moment (w.steps + 1)) (sym history)
    (revealed w.topo (store_of w.beacons) w.keys w.routers w.hosts w.sources w.moment w.steps h r holder
    g.steps g.actors g.senders g.topology (omega (arith, limit)) next_is)
