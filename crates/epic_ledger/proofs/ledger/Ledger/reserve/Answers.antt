use Rattle.std.proofs.Common.{◌<◌, ◌+◌, ◌^◌, length, sym, subst, arith}
use Rattle.epic_ledger.specs.Recorded.{Recorded}
use Rattle.epic_ledger.specs.Indexes.{send_kind, pass_kind, path_kind, reveal_kind}
use Rattle.epic_ledger.proofs.KindLaws.{index_few}
use Rattle.epic_ledger.proofs.ledger.Ledger.reserve.Goals as goal

pub reserve-requires-3 : goal.reserve-requires-3
reserve-requires-3 c =
    let few = index_few (send_kind c.self.inside.emissions.emissions) _ _ _ c.self.invariant.sends in
    let room = subst (λ (r : Recorded). length r.history.events + c.args.events < 2 ^ 31) (sym c.self.view_is) c.requires.few_events in
    omega (arith, few.0, few.1, room)

pub reserve-requires-4 : goal.reserve-requires-4
reserve-requires-4 c =
    let few = index_few (pass_kind c.self.inside.emissions.emissions) _ _ _ c.self.invariant.passes in
    let room = subst (λ (r : Recorded). length r.history.events + c.args.events < 2 ^ 31) (sym c.self.view_is) c.requires.few_events in
    omega (arith, few.0, few.1, room)

pub reserve-requires-5 : goal.reserve-requires-5
reserve-requires-5 c =
    let few = index_few (path_kind c.self.inside.emissions.emissions) _ _ _ c.self.invariant.on_paths in
    let room = subst (λ (r : Recorded). length r.history.events + c.args.events < 2 ^ 31) (sym c.self.view_is) c.requires.few_events in
    omega (arith, few.0, few.1, room)

pub reserve-requires-6 : goal.reserve-requires-6
reserve-requires-6 c =
    let few = index_few reveal_kind _ _ _ c.self.invariant.reveals in
    let room = subst (λ (r : Recorded). length r.history.events + c.args.events < 2 ^ 31) (sym c.self.view_is) c.requires.few_events in
    omega (arith, few.0, few.1, room)
