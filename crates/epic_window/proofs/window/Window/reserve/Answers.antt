use Rattle.std.proofs.Common.{arith}
use Rattle.epic_window.specs.Room.{room}
use Rattle.epic_window.proofs.SameEntries.{Same-left, Same-reordered, Same-trans}
use Rattle.epic_window.proofs.Swept.{Tallied-swept}
use Rattle.epic_window.proofs.Tallies.{Tallied-reordered}
use Rattle.epic_window.proofs.window.Window.reserve.Goals as goal

pub invariant_of-self : goal.invariant_of-self
invariant_of-self c =
    Tallied-reordered _ _ _ _ _ _ _ _
    (Tallied-swept _ _ _ _ _ _ _ _ _ c.first_bucket-first.ensures.value c.self.invariant c.sweep.ensures.turns c.sweep.ensures.slots c.sweep.ensures.totals)
    c.grow.ensures.permuted c.grow.ensures.slots c.grow.ensures.totals

pub returns-clause-entries : goal.returns-clause-entries
returns-clause-entries c =
    rw (← c.self.view_is)
    (Same-trans _ _ _ _ _
    (Same-reordered _ _ _ _ c.grow.ensures.permuted c.grow.ensures.turns)
    (Same-left _ _ _ _ _ c.first_bucket-first.ensures.value c.sweep.ensures.turns))

pub returns-clause-kept : goal.returns-clause-kept
unfolding room
returns-clause-kept c =
    rw (← c.self.view_is) (omega (arith, c.grow.ensures.kept, c.sweep.ensures.turns_spare, c.sweep.ensures.slots_spare, c.sweep.ensures.totals_spare))
