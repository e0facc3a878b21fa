use Rattle.std.proofs.Common.{◌≡◌, sym, subst, ap, ◌∙◌}
use Rattle.std.specs.Prelude.{option_map, Some}
use Rattle.epic_beacon.specs.Store.{store_of}
use Rattle.epic_ledger.specs.History.{Emission, emission_at}
use Rattle.epic_model.specs.Keeping.{IsDue}
use Rattle.epic_world.specs.Standing.{Standing}
use Rattle.epic_world.proofs.Gone.{due_there}
use Rattle.epic_world.proofs.world.World.pass.Goals as goal

pub at_place-requires-clause-due : goal.at_place-requires-clause-due
at_place-requires-clause-due c =
    let w = c.self.inside in
    let x : Emission = record { place = c.in-Ok-Some.place; bytes = c.in-Ok-Some.bytes.items } in
    let at : emission_at w.ledger.history.emissions c.args.number ≡ Some x = sym c.in-Ok-Some.ensures ∙ ap (λ o. option_map {U = Emission} (λ e. record { place = e.0; bytes = e.1.items }) o) c.in-Ok-Some.field-0-is in
    subst (λ (v : Standing). IsDue v.network c.in-Ok-Some.place) c.self.view_is
    (due_there w.topo (store_of w.beacons) w.keys w.routers w.hosts w.sources w.moment w.steps w.ledger.history c.self.invariant c.args.number x at)
