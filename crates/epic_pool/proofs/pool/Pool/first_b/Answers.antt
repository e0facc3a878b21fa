-- The first node, and that the nodes of all lists are live, by the lists of the fields.
use Rattle.std.proofs.Common.{ℕ, ◌<◌, get_or, None, ◌∙◌, arith}
use Rattle.std.specs.Prelude.{IsSome}
use Rattle.std.proofs.lemmas.List.Elements.{All-same}
use Rattle.epic_pool.proofs.Lists.{length-lists_of, list_is}
use Rattle.epic_pool.proofs.Readers.{first_is}
use Rattle.epic_pool.proofs.pool.Pool.first_b.Goals as goal

pub after-requires : goal.after-requires
after-requires g c =
    let p = c.self.invariant.pool in
    let r = p.rings_b in
    let h = r.heads in
    let k = p.heads_b in
    let there = rw (← c.self.view_is) at c.requires in
    let e = length-lists_of c.self.inside.base c.self.inside.b.next.items c.self.inside.lists_b in
    omega (arith, there, e, h, k)

pub returns-clause-value : goal.returns-clause-value
returns-clause-value g c =
    let p = c.self.invariant.pool in
    let there = rw (← c.self.view_is) at c.requires in
    let k = p.heads_b in
    let e = length-lists_of c.self.inside.base c.self.inside.b.next.items c.self.inside.lists_b in
    rw (← c.self.view_is)
    (c.after.ensures
    ∙ first_is c.self.inside.base c.self.inside.b.next.items c.self.inside.b.prev.items c.self.inside.lists_b c.args.b p.rings_b (omega (arith, k)) (omega (arith, there, e)))

pub returns-clause-live : goal.returns-clause-live
returns-clause-live g c =
    let p = c.self.invariant.pool in
    let e = length-lists_of c.self.inside.base c.self.inside.b.next.items c.self.inside.lists_b in
    rw (← c.self.view_is)
    (λ l lt.
    let inside : l < c.self.inside.lists_b = omega (arith, e) in
    All-same (λ (x : ℕ). IsSome (get_or c.self.inside.values.items x None)) _ _ (list_is c.self.inside.base c.self.inside.b.next.items c.self.inside.lists_b l inside) (p.live_b l inside))
