use Rattle.epic_pool.specs.Rings.{Itself}
use Rattle.epic_pool.proofs.family.Links.alone.Given as goal

-- both have named the indices so far
abbrev pub invariant-loop-i : goal.invariant-loop-i
invariant-loop-i l = Itself l.i l.next.items × Itself l.i l.prev.items
