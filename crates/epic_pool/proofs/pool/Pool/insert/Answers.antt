-- The node is the first unused one; the lists, by what links it.
use Rattle.std.proofs.Common.{◌<◌, sym, ◌∙◌, None, Some, arith, get_or-set_same}
use Rattle.epic_pool.proofs.Inserting.{node_in, node_there, node_free, node_alone, in_values, inserted, inserted_a, inserted_b, inserted_spare, some_left, none_left}
use Rattle.epic_pool.proofs.Lists.{length-lists_of}
use Rattle.epic_pool.proofs.pool.Pool.insert.Goals as goal

pub unlink-requires-clause-node : goal.unlink-requires-clause-node
unlink-requires-clause-node g c =
    node_in c.self.inside.base c.self.inside.lists_a c.self.inside.lists_b c.in-Some.node c.self.inside.a.next.items c.self.inside.a.prev.items c.self.inside.b.next.items c.self.inside.b.prev.items c.self.inside.values.items c.self.invariant.pool (sym c.after.ensures ∙ c.in-Some.is)

pub unlink-requires-clause-inside : goal.unlink-requires-clause-inside
unlink-requires-clause-inside g c =
    node_there c.self.inside.base c.self.inside.lists_a c.self.inside.lists_b c.in-Some.node c.self.inside.a.next.items c.self.inside.a.prev.items c.self.inside.b.next.items c.self.inside.b.prev.items c.self.inside.values.items c.self.invariant.pool (sym c.after.ensures ∙ c.in-Some.is)

pub link-requires-clause-head : goal.link-requires-clause-head
link-requires-clause-head g c =
    let there_a = rw (← c.self.view_is) at c.requires.a in
    let a_in : c.args.a < c.self.inside.lists_a = omega (arith, there_a, length-lists_of c.self.inside.base c.self.inside.a.next.items c.self.inside.lists_a) in
    let p = c.self.invariant.pool in
    let h = p.heads_a in
    omega (arith, a_in, h)

pub link-requires-clause-node : goal.link-requires-clause-node
link-requires-clause-node g c =
    node_in c.self.inside.base c.self.inside.lists_a c.self.inside.lists_b c.in-Some.node c.self.inside.a.next.items c.self.inside.a.prev.items c.self.inside.b.next.items c.self.inside.b.prev.items c.self.inside.values.items c.self.invariant.pool (sym c.after.ensures ∙ c.in-Some.is)

pub link-requires-in-Some-clause-head : goal.link-requires-in-Some-clause-head
link-requires-in-Some-clause-head g c =
    let there_b = rw (← c.self.view_is) at c.requires.b in
    let b_in : c.args.b < c.self.inside.lists_b = omega (arith, there_b, length-lists_of c.self.inside.base c.self.inside.b.next.items c.self.inside.lists_b) in
    let p = c.self.invariant.pool in
    let h = p.heads_b in
    omega (arith, b_in, h)

pub link-requires-in-Some-clause-node : goal.link-requires-in-Some-clause-node
link-requires-in-Some-clause-node g c =
    node_in c.self.inside.base c.self.inside.lists_a c.self.inside.lists_b c.in-Some.node c.self.inside.a.next.items c.self.inside.a.prev.items c.self.inside.b.next.items c.self.inside.b.prev.items c.self.inside.values.items c.self.invariant.pool (sym c.after.ensures ∙ c.in-Some.is)

pub link-requires-in-Some-clause-alone : goal.link-requires-in-Some-clause-alone
link-requires-in-Some-clause-alone g c =
    node_alone c.self.inside.base c.self.inside.lists_a c.self.inside.lists_b c.in-Some.node c.self.inside.a.next.items c.self.inside.a.prev.items c.self.inside.b.next.items c.self.inside.b.prev.items c.self.inside.values.items c.self.invariant.pool (sym c.after.ensures ∙ c.in-Some.is)

pub invariant_of-self : goal.invariant_of-self
invariant_of-self g c =
    let there_a = rw (← c.self.view_is) at c.requires.a in
    let a_in : c.args.a < c.self.inside.lists_a = omega (arith, there_a, length-lists_of c.self.inside.base c.self.inside.a.next.items c.self.inside.lists_a) in
    let there_b = rw (← c.self.view_is) at c.requires.b in
    let b_in : c.args.b < c.self.inside.lists_b = omega (arith, there_b, length-lists_of c.self.inside.base c.self.inside.b.next.items c.self.inside.lists_b) in
    record {
      pool = inserted c.self.inside.base c.self.inside.lists_a c.self.inside.lists_b c.in-Some.node c.self.inside.a.next.items c.self.inside.a.prev.items c.self.inside.b.next.items c.self.inside.b.prev.items c.self.inside.values.items c.self.invariant.pool (sym c.after.ensures ∙ c.in-Some.is) c.unlink.new.self.next.items c.unlink.new.self.prev.items c.unlink.ensures c.args.a c.args.b c.args.value c.link.new.self.next.items c.link.new.self.prev.items c.link-in-Some.new.self.next.items c.link-in-Some.new.self.prev.items a_in b_in c.link.ensures c.link-in-Some.ensures;
      counted = omega (arith, c.self.invariant.counted, inserted_spare c.self.inside.base c.self.inside.lists_a c.self.inside.lists_b c.in-Some.node c.self.inside.a.next.items c.self.inside.a.prev.items c.self.inside.b.next.items c.self.inside.b.prev.items c.self.inside.values.items c.self.invariant.pool (sym c.after.ensures ∙ c.in-Some.is) c.unlink.new.self.next.items c.unlink.new.self.prev.items c.unlink.ensures c.args.a c.args.b c.args.value c.link.new.self.next.items c.link.new.self.prev.items c.link-in-Some.new.self.next.items c.link-in-Some.new.self.prev.items a_in b_in c.link.ensures c.link-in-Some.ensures);
    }

pub returns-in-None-clause-full : goal.returns-in-None-clause-full
returns-in-None-clause-full g c =
    rw (← c.self.view_is) (c.self.invariant.counted ∙ none_left c.self.inside.base c.self.inside.lists_a c.self.inside.lists_b c.self.inside.a.next.items c.self.inside.a.prev.items c.self.inside.b.next.items c.self.inside.b.prev.items c.self.inside.values.items c.self.invariant.pool (sym c.after.ensures ∙ c.in-None.is))

pub returns-in-Some-clause-new : goal.returns-in-Some-clause-new
returns-in-Some-clause-new g c =
    rw (← c.self.view_is) (node_free c.self.inside.base c.self.inside.lists_a c.self.inside.lists_b c.in-Some.node c.self.inside.a.next.items c.self.inside.a.prev.items c.self.inside.b.next.items c.self.inside.b.prev.items c.self.inside.values.items c.self.invariant.pool (sym c.after.ensures ∙ c.in-Some.is))

pub returns-in-Some-clause-live : goal.returns-in-Some-clause-live
returns-in-Some-clause-live g c =
    get_or-set_same c.self.inside.values.items c.in-Some.node (Some c.args.value) None (in_values c.self.inside.base c.self.inside.lists_a c.self.inside.lists_b c.in-Some.node c.self.inside.a.next.items c.self.inside.a.prev.items c.self.inside.b.next.items c.self.inside.b.prev.items c.self.inside.values.items c.self.invariant.pool (sym c.after.ensures ∙ c.in-Some.is))

pub returns-in-Some-clause-a : goal.returns-in-Some-clause-a
returns-in-Some-clause-a g c =
    let there_a = rw (← c.self.view_is) at c.requires.a in
    let a_in : c.args.a < c.self.inside.lists_a = omega (arith, there_a, length-lists_of c.self.inside.base c.self.inside.a.next.items c.self.inside.lists_a) in
    let there_b = rw (← c.self.view_is) at c.requires.b in
    let b_in : c.args.b < c.self.inside.lists_b = omega (arith, there_b, length-lists_of c.self.inside.base c.self.inside.b.next.items c.self.inside.lists_b) in
    rw (← c.self.view_is) (inserted_a c.self.inside.base c.self.inside.lists_a c.self.inside.lists_b c.in-Some.node c.self.inside.a.next.items c.self.inside.a.prev.items c.self.inside.b.next.items c.self.inside.b.prev.items c.self.inside.values.items c.self.invariant.pool (sym c.after.ensures ∙ c.in-Some.is) c.unlink.new.self.next.items c.unlink.new.self.prev.items c.unlink.ensures c.args.a c.args.b c.args.value c.link.new.self.next.items c.link.new.self.prev.items c.link-in-Some.new.self.next.items c.link-in-Some.new.self.prev.items a_in b_in c.link.ensures c.link-in-Some.ensures)

pub returns-in-Some-clause-b : goal.returns-in-Some-clause-b
returns-in-Some-clause-b g c =
    let there_a = rw (← c.self.view_is) at c.requires.a in
    let a_in : c.args.a < c.self.inside.lists_a = omega (arith, there_a, length-lists_of c.self.inside.base c.self.inside.a.next.items c.self.inside.lists_a) in
    let there_b = rw (← c.self.view_is) at c.requires.b in
    let b_in : c.args.b < c.self.inside.lists_b = omega (arith, there_b, length-lists_of c.self.inside.base c.self.inside.b.next.items c.self.inside.lists_b) in
    rw (← c.self.view_is) (inserted_b c.self.inside.base c.self.inside.lists_a c.self.inside.lists_b c.in-Some.node c.self.inside.a.next.items c.self.inside.a.prev.items c.self.inside.b.next.items c.self.inside.b.prev.items c.self.inside.values.items c.self.invariant.pool (sym c.after.ensures ∙ c.in-Some.is) c.unlink.new.self.next.items c.unlink.new.self.prev.items c.unlink.ensures c.args.a c.args.b c.args.value c.link.new.self.next.items c.link.new.self.prev.items c.link-in-Some.new.self.next.items c.link-in-Some.new.self.prev.items a_in b_in c.link.ensures c.link-in-Some.ensures)

pub returns-in-Some-clause-spare : goal.returns-in-Some-clause-spare
returns-in-Some-clause-spare g c =
    let there_a = rw (← c.self.view_is) at c.requires.a in
    let a_in : c.args.a < c.self.inside.lists_a = omega (arith, there_a, length-lists_of c.self.inside.base c.self.inside.a.next.items c.self.inside.lists_a) in
    let there_b = rw (← c.self.view_is) at c.requires.b in
    let b_in : c.args.b < c.self.inside.lists_b = omega (arith, there_b, length-lists_of c.self.inside.base c.self.inside.b.next.items c.self.inside.lists_b) in
    rw (← c.self.view_is) (omega (arith, c.self.invariant.counted, inserted_spare c.self.inside.base c.self.inside.lists_a c.self.inside.lists_b c.in-Some.node c.self.inside.a.next.items c.self.inside.a.prev.items c.self.inside.b.next.items c.self.inside.b.prev.items c.self.inside.values.items c.self.invariant.pool (sym c.after.ensures ∙ c.in-Some.is) c.unlink.new.self.next.items c.unlink.new.self.prev.items c.unlink.ensures c.args.a c.args.b c.args.value c.link.new.self.next.items c.link.new.self.prev.items c.link-in-Some.new.self.next.items c.link-in-Some.new.self.prev.items a_in b_in c.link.ensures c.link-in-Some.ensures))

pub overflow_sub-self : goal.overflow_sub-self
overflow_sub-self g c = omega (arith, c.self.invariant.counted, some_left c.self.inside.base c.self.inside.lists_a c.self.inside.lists_b c.in-Some.node c.self.inside.a.next.items c.self.inside.a.prev.items c.self.inside.b.next.items c.self.inside.b.prev.items c.self.inside.values.items c.self.invariant.pool (sym c.after.ensures ∙ c.in-Some.is))
