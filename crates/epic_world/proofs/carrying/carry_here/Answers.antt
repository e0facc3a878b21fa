use Rattle.std.proofs.Common.{sym, subst, ap, ◌∙◌, arith, refl}
use Rattle.epic_ledger.specs.History.{History, emission_at}
use Rattle.epic_model.specs.Keeping.{Inv}
use Rattle.epic_actors.specs.Hosts.{HostsStandFor}
use Rattle.epic_actors.specs.Routers.{RoutersStandFor}
use Rattle.epic_world.proofs.Carried.{few_bytes, due_now, emission_lawful}
use Rattle.epic_world.proofs.carrying.carry_here.Goals as goal

pub ready_place-requires-clause-due : goal.ready_place-requires-clause-due
ready_place-requires-clause-due c = due_now _ _ _ _ _ _ c.requires.inv c.requires.there

pub ready_place-requires-clause-faultless : goal.ready_place-requires-clause-faultless
ready_place-requires-clause-faultless c = (emission_lawful _ _ _ c.requires.inv.sound.lawful.packets c.requires.there).faultless

pub returns-in_err-ready_place-clause-routed : goal.returns-in_err-ready_place-clause-routed
returns-in_err-ready_place-clause-routed c = c.ready_place.ensures.routed c.args.now c.args.ledger.now.history c.requires.routed

pub returns-in_err-ready_place-clause-hosted : goal.returns-in_err-ready_place-clause-hosted
returns-in_err-ready_place-clause-hosted c = c.ready_place.ensures.hosted c.args.now c.args.ledger.now.history c.requires.hosted

pub overflow_mul-came : goal.overflow_mul-came
overflow_mul-came c = let few = few_bytes _ _ _ _ _ _ c.requires.inv c.requires.there in omega (arith, few)

pub reserve-requires-clause-few_bytes : goal.reserve-requires-clause-few_bytes
reserve-requires-clause-few_bytes c = let few = few_bytes _ _ _ _ _ _ c.requires.inv c.requires.there in omega (arith, few, c.requires.few_bytes)

pub carry_on-requires-clause-ready : goal.carry_on-requires-clause-ready
carry_on-requires-clause-ready c =
    let t = c.args.topo.now in
    let same = sym c.reserve.ensures.history in
    record {
      emission = record { place = c.args.place; bytes = c.args.came.now };
      there = ap (λ (h : History). emission_at h.emissions c.args.number) c.reserve.ensures.history ∙ c.requires.there;
      size_is = refl;
      inv = subst (λ h. Inv t h c.args.now c.args.step) same c.requires.inv;
      routed = subst (RoutersStandFor t c.args.now c.ready_place.new.routers) same (c.ready_place.ensures.routed c.args.now c.args.ledger.now.history c.requires.routed);
      hosted = subst (HostsStandFor t c.args.now c.ready_place.new.hosts) same (c.ready_place.ensures.hosted c.args.now c.args.ledger.now.history c.requires.hosted);
      events = c.in_ok-reserve.ensures.events;
      emissions = c.in_ok-reserve.ensures.emissions;
      bytes = c.in_ok-reserve.ensures.bytes;
      rooms = c.in_ok-ready_place.ensures.room;
    }

pub returns-in_err-reserve-clause-routed : goal.returns-in_err-reserve-clause-routed
returns-in_err-reserve-clause-routed c =
    subst (RoutersStandFor c.args.topo.now c.args.now c.ready_place.new.routers) (sym c.reserve.ensures.history)
    (c.ready_place.ensures.routed c.args.now c.args.ledger.now.history c.requires.routed)

pub returns-in_err-reserve-clause-hosted : goal.returns-in_err-reserve-clause-hosted
returns-in_err-reserve-clause-hosted c =
    subst (HostsStandFor c.args.topo.now c.args.now c.ready_place.new.hosts) (sym c.reserve.ensures.history)
    (c.ready_place.ensures.hosted c.args.now c.args.ledger.now.history c.requires.hosted)

pub returns-in_default-clause-routed : goal.returns-in_default-clause-routed
returns-in_default-clause-routed c =
    subst (RoutersStandFor c.args.topo.now c.args.now c.ready_place.new.routers) (sym c.reserve.ensures.history)
    (c.ready_place.ensures.routed c.args.now c.args.ledger.now.history c.requires.routed)

pub returns-in_default-clause-hosted : goal.returns-in_default-clause-hosted
returns-in_default-clause-hosted c =
    subst (HostsStandFor c.args.topo.now c.args.now c.ready_place.new.hosts) (sym c.reserve.ensures.history)
    (c.ready_place.ensures.hosted c.args.now c.args.ledger.now.history c.requires.hosted)

pub returns-then-is_err-clause-routed : goal.returns-then-is_err-clause-routed
returns-then-is_err-clause-routed c =
    subst (RoutersStandFor c.args.topo.now c.args.now c.ready_place.new.routers) (sym c.reserve.ensures.history)
    (c.ready_place.ensures.routed c.args.now c.args.ledger.now.history c.requires.routed)

pub returns-then-is_err-clause-hosted : goal.returns-then-is_err-clause-hosted
returns-then-is_err-clause-hosted c =
    subst (HostsStandFor c.args.topo.now c.args.now c.ready_place.new.hosts) (sym c.reserve.ensures.history)
    (c.ready_place.ensures.hosted c.args.now c.args.ledger.now.history c.requires.hosted)
