-- All lists are empty.
use Rattle.std.proofs.Common.{◌+◌, ◌<◌, ◌≤◌, refl, sym, ◌∙◌, ap, None, length, arith}
use Rattle.std.proofs.lemmas.List.{length-replicate}
use Rattle.epic_pool.proofs.Heads.{start, start_lists, start_spare, nothing_there}
use Rattle.epic_pool.proofs.pool.Pool.new.Goals as goal

pub invariant_of-result : goal.invariant_of-result
invariant_of-result g c =
    let most = c.max-most.ensures in
    let a_in : c.args.lists_a < c.max-most.result + 1 = omega (arith, most) in
    let b_in : c.args.lists_b ≤ c.max-most.result + 1 = omega (arith, most) in
    record {
      pool =
          start (c.max-most.result + 1) c.args.lists_a c.args.lists_b c.in_ok-a.a.next.items c.in_ok-a.a.prev.items c.in_ok-b.b.next.items c.in_ok-b.b.prev.items c.in_ok-a.ensures c.in_ok-b.ensures c.in_ok-values.values.items
          (ap length c.in_ok-values.ensures ∙ length-replicate (c.max-most.result + 1) None)
          (λ k. rw c.in_ok-values.ensures (nothing_there None refl (c.max-most.result + 1) k))
          a_in
          b_in
          (omega (arith, c.if-most-ge4294967295.false));
      counted = sym (start_spare (c.max-most.result + 1) c.in_ok-a.a.next.items c.in_ok-a.a.prev.items c.args.lists_a c.in_ok-a.ensures a_in);
    }

pub returns-clause-a : goal.returns-clause-a
returns-clause-a g c =
    let most = c.max-most.ensures in
    start_lists (c.max-most.result + 1) c.in_ok-a.a.next.items c.in_ok-a.a.prev.items c.args.lists_a c.in_ok-a.ensures (omega (arith, most))

pub returns-clause-b : goal.returns-clause-b
returns-clause-b g c =
    let most = c.max-most.ensures in
    start_lists (c.max-most.result + 1) c.in_ok-b.b.next.items c.in_ok-b.b.prev.items c.args.lists_b c.in_ok-b.ensures (omega (arith, most))
