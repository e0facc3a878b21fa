-- The lists stay, and one more node is unused.
use Rattle.std.proofs.Common.{◌≡◌, ℕ, ◌+◌, ◌<◌, ◌^◌, subst, List, length, arith}
use Rattle.epic_pool.specs.Rings.{Grown}
use Rattle.epic_pool.proofs.Adding.{added, added_a, added_b, added_spare, added_fits}
use Rattle.epic_pool.proofs.Growing.{padded}
use Rattle.epic_pool.proofs.pool.Pool.add.Goals as goal

pub invariant_of-self-2 : goal.invariant_of-self-2
invariant_of-self-2 g c =
    let g_grown : Grown c.self.inside.base c.self.inside.a.next.items c.grow.new.self.next.items c.grow.new.self.prev.items =
    subst (λ (xs : List ℕ). Grown c.self.inside.base xs c.grow.new.self.next.items c.grow.new.self.prev.items) c.make_room.ensures.next_a c.grow.ensures in
    let h_grown : Grown c.self.inside.base c.self.inside.b.next.items c.grow-2.new.self.next.items c.grow-2.new.self.prev.items =
    subst (λ (xs : List ℕ). Grown c.self.inside.base xs c.grow-2.new.self.next.items c.grow-2.new.self.prev.items) c.make_room.ensures.next_b c.grow-2.ensures in
    let many = c.self.invariant.pool.values_length in
    let number : c.len-node.result ≡ length c.self.inside.a.next.items = omega (arith, c.len-node.ensures, many) in
    let small : length c.self.inside.a.next.items + 1 < 2 ^ 32 = omega (arith, number, c.if-node.false) in
    rw (c.push_reserved.ensures.items, c.make_room.ensures.values)
    (record {
      pool = added c.self.inside.base c.self.inside.lists_a c.self.inside.lists_b c.len-node.result c.self.inside.a.next.items c.self.inside.a.prev.items c.self.inside.b.next.items c.self.inside.b.prev.items c.grow.new.self.next.items c.grow.new.self.prev.items c.grow-2.new.self.next.items c.grow-2.new.self.prev.items c.link.new.self.next.items c.link.new.self.prev.items c.self.inside.values.items c.self.invariant.pool g_grown h_grown number c.link.ensures small;
      counted = omega (arith, c.self.invariant.counted, added_spare c.self.inside.base c.self.inside.lists_a c.self.inside.lists_b c.len-node.result c.self.inside.a.next.items c.self.inside.a.prev.items c.self.inside.b.next.items c.self.inside.b.prev.items c.grow.new.self.next.items c.grow.new.self.prev.items c.grow-2.new.self.next.items c.grow-2.new.self.prev.items c.link.new.self.next.items c.link.new.self.prev.items c.self.inside.values.items c.self.invariant.pool g_grown h_grown number c.link.ensures small);
    })

pub returns-clause-a : goal.returns-clause-a
returns-clause-a g c =
    let g_grown : Grown c.self.inside.base c.self.inside.a.next.items c.grow.new.self.next.items c.grow.new.self.prev.items =
    subst (λ (xs : List ℕ). Grown c.self.inside.base xs c.grow.new.self.next.items c.grow.new.self.prev.items) c.make_room.ensures.next_a c.grow.ensures in
    let h_grown : Grown c.self.inside.base c.self.inside.b.next.items c.grow-2.new.self.next.items c.grow-2.new.self.prev.items =
    subst (λ (xs : List ℕ). Grown c.self.inside.base xs c.grow-2.new.self.next.items c.grow-2.new.self.prev.items) c.make_room.ensures.next_b c.grow-2.ensures in
    let many = c.self.invariant.pool.values_length in
    let number : c.len-node.result ≡ length c.self.inside.a.next.items = omega (arith, c.len-node.ensures, many) in
    let small : length c.self.inside.a.next.items + 1 < 2 ^ 32 = omega (arith, number, c.if-node.false) in
    rw (← c.self.view_is) (added_a c.self.inside.base c.self.inside.lists_a c.self.inside.lists_b c.len-node.result c.self.inside.a.next.items c.self.inside.a.prev.items c.self.inside.b.next.items c.self.inside.b.prev.items c.grow.new.self.next.items c.grow.new.self.prev.items c.grow-2.new.self.next.items c.grow-2.new.self.prev.items c.link.new.self.next.items c.link.new.self.prev.items c.self.inside.values.items c.self.invariant.pool g_grown h_grown number c.link.ensures small)

pub returns-clause-b : goal.returns-clause-b
returns-clause-b g c =
    let g_grown : Grown c.self.inside.base c.self.inside.a.next.items c.grow.new.self.next.items c.grow.new.self.prev.items =
    subst (λ (xs : List ℕ). Grown c.self.inside.base xs c.grow.new.self.next.items c.grow.new.self.prev.items) c.make_room.ensures.next_a c.grow.ensures in
    let h_grown : Grown c.self.inside.base c.self.inside.b.next.items c.grow-2.new.self.next.items c.grow-2.new.self.prev.items =
    subst (λ (xs : List ℕ). Grown c.self.inside.base xs c.grow-2.new.self.next.items c.grow-2.new.self.prev.items) c.make_room.ensures.next_b c.grow-2.ensures in
    let many = c.self.invariant.pool.values_length in
    let number : c.len-node.result ≡ length c.self.inside.a.next.items = omega (arith, c.len-node.ensures, many) in
    let small : length c.self.inside.a.next.items + 1 < 2 ^ 32 = omega (arith, number, c.if-node.false) in
    rw (← c.self.view_is) (added_b c.self.inside.base c.self.inside.lists_a c.self.inside.lists_b c.len-node.result c.self.inside.a.next.items c.self.inside.a.prev.items c.self.inside.b.next.items c.self.inside.b.prev.items c.grow.new.self.next.items c.grow.new.self.prev.items c.grow-2.new.self.next.items c.grow-2.new.self.prev.items c.link.new.self.next.items c.link.new.self.prev.items c.self.inside.values.items c.self.invariant.pool g_grown h_grown number c.link.ensures small)

pub returns-clause-values : goal.returns-clause-values
returns-clause-values g c =
    rw (← c.self.view_is, c.push_reserved.ensures.items, c.make_room.ensures.values) (λ node. padded c.self.inside.values.items node)

pub overflow_add-self : goal.overflow_add-self
overflow_add-self g c =
    let g_grown : Grown c.self.inside.base c.self.inside.a.next.items c.grow.new.self.next.items c.grow.new.self.prev.items =
    subst (λ (xs : List ℕ). Grown c.self.inside.base xs c.grow.new.self.next.items c.grow.new.self.prev.items) c.make_room.ensures.next_a c.grow.ensures in
    let h_grown : Grown c.self.inside.base c.self.inside.b.next.items c.grow-2.new.self.next.items c.grow-2.new.self.prev.items =
    subst (λ (xs : List ℕ). Grown c.self.inside.base xs c.grow-2.new.self.next.items c.grow-2.new.self.prev.items) c.make_room.ensures.next_b c.grow-2.ensures in
    let many = c.self.invariant.pool.values_length in
    let number : c.len-node.result ≡ length c.self.inside.a.next.items = omega (arith, c.len-node.ensures, many) in
    let small : length c.self.inside.a.next.items + 1 < 2 ^ 32 = omega (arith, number, c.if-node.false) in
    omega (arith, c.self.invariant.counted, added_fits c.self.inside.base c.self.inside.lists_a c.self.inside.lists_b c.len-node.result c.self.inside.a.next.items c.self.inside.a.prev.items c.self.inside.b.next.items c.self.inside.b.prev.items c.grow.new.self.next.items c.grow.new.self.prev.items c.grow-2.new.self.next.items c.grow-2.new.self.prev.items c.link.new.self.next.items c.link.new.self.prev.items c.self.inside.values.items c.self.invariant.pool g_grown h_grown number c.link.ensures small)
