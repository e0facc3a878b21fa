-- The next node, and that a list has the node, by the lists of the fields.
use Rattle.std.proofs.Common.{◌∙◌, arith}
use Rattle.epic_pool.proofs.Listed.{some_list}
use Rattle.epic_pool.proofs.Lists.{length-lists_of}
use Rattle.epic_pool.proofs.Readers.{next_is}
use Rattle.epic_pool.proofs.pool.Pool.next_a.Goals as goal

pub returns-clause-value : goal.returns-clause-value
returns-clause-value g c =
    let p = c.self.invariant.pool in
    let k = p.heads_a in
    let e = length-lists_of c.self.inside.base c.self.inside.a.next.items c.self.inside.lists_a in
    rw (← c.self.view_is)
    (λ l xs ys lt is.
    c.after.ensures
    ∙ next_is c.self.inside.base c.self.inside.a.next.items c.self.inside.a.prev.items c.self.inside.lists_a l c.args.node xs ys p.rings_a (omega (arith, k)) (omega (arith, e)) is)

pub returns-clause-listed : goal.returns-clause-listed
returns-clause-listed g c =
    let live = rw (← c.self.view_is) at c.requires in
    rw (← c.self.view_is)
    (some_list c.self.inside.base c.self.inside.a.next.items c.self.inside.lists_a c.args.node (c.self.invariant.pool.listed_a c.args.node live))
