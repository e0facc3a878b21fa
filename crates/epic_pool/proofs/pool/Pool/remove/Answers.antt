-- The lists without the node, by what takes it out of them.
use Rattle.std.proofs.Common.{sym, ◌∙◌, None, arith}
use Rattle.epic_pool.proofs.Removing.{removed, removed_a, removed_b, removed_spare, removed_fits}
use Rattle.epic_pool.proofs.Values.{live_inside, read}
use Rattle.epic_pool.proofs.pool.Pool.remove.Goals as goal

pub invariant_of-self : goal.invariant_of-self
invariant_of-self g c =
    let live = rw (← c.self.view_is) at c.requires in
    rw c.take.ensures.after
    (record {
      pool = removed c.self.inside.base c.self.inside.lists_a c.self.inside.lists_b c.args.node c.self.inside.a.next.items c.self.inside.a.prev.items c.self.inside.b.next.items c.self.inside.b.prev.items c.self.inside.values.items c.self.invariant.pool live c.unlink.new.self.next.items c.unlink.new.self.prev.items c.unlink-2.new.self.next.items c.unlink-2.new.self.prev.items c.link.new.self.next.items c.link.new.self.prev.items c.unlink.ensures c.unlink-2.ensures c.link.ensures;
      counted = omega (arith, c.self.invariant.counted, removed_spare c.self.inside.base c.self.inside.lists_a c.self.inside.lists_b c.args.node c.self.inside.a.next.items c.self.inside.a.prev.items c.self.inside.b.next.items c.self.inside.b.prev.items c.self.inside.values.items c.self.invariant.pool live c.unlink.new.self.next.items c.unlink.new.self.prev.items c.unlink-2.new.self.next.items c.unlink-2.new.self.prev.items c.link.new.self.next.items c.link.new.self.prev.items c.unlink.ensures c.unlink-2.ensures c.link.ensures);
    })

pub returns-clause-value : goal.returns-clause-value
returns-clause-value g c =
    let live = rw (← c.self.view_is) at c.requires in
    let inside = live_inside c.self.inside.values.items c.args.node live in
    rw (← c.self.view_is)
    (read c.self.inside.values.items c.args.node None c.index_mut.result.now inside ∙ sym c.index_mut.ensures.value ∙ sym c.take.ensures.value ∙ c.in-Some.is)

pub returns-clause-a : goal.returns-clause-a
returns-clause-a g c =
    let live = rw (← c.self.view_is) at c.requires in
    rw (← c.self.view_is) (removed_a c.self.inside.base c.self.inside.lists_a c.self.inside.lists_b c.args.node c.self.inside.a.next.items c.self.inside.a.prev.items c.self.inside.b.next.items c.self.inside.b.prev.items c.self.inside.values.items c.self.invariant.pool live c.unlink.new.self.next.items c.unlink.new.self.prev.items c.unlink-2.new.self.next.items c.unlink-2.new.self.prev.items c.link.new.self.next.items c.link.new.self.prev.items c.unlink.ensures c.unlink-2.ensures c.link.ensures)

pub returns-clause-b : goal.returns-clause-b
returns-clause-b g c =
    let live = rw (← c.self.view_is) at c.requires in
    rw (← c.self.view_is) (removed_b c.self.inside.base c.self.inside.lists_a c.self.inside.lists_b c.args.node c.self.inside.a.next.items c.self.inside.a.prev.items c.self.inside.b.next.items c.self.inside.b.prev.items c.self.inside.values.items c.self.invariant.pool live c.unlink.new.self.next.items c.unlink.new.self.prev.items c.unlink-2.new.self.next.items c.unlink-2.new.self.prev.items c.link.new.self.next.items c.link.new.self.prev.items c.unlink.ensures c.unlink-2.ensures c.link.ensures)

pub overflow_add-self : goal.overflow_add-self
overflow_add-self g c =
    let live = rw (← c.self.view_is) at c.requires in
    omega (arith, c.self.invariant.counted, removed_fits c.self.inside.base c.self.inside.lists_a c.self.inside.lists_b c.args.node c.self.inside.a.next.items c.self.inside.a.prev.items c.self.inside.b.next.items c.self.inside.b.prev.items c.self.inside.values.items c.self.invariant.pool live c.unlink.new.self.next.items c.unlink.new.self.prev.items c.unlink-2.new.self.next.items c.unlink-2.new.self.prev.items c.link.new.self.next.items c.link.new.self.prev.items c.unlink.ensures c.unlink-2.ensures c.link.ensures)
