use Rattle.std.proofs.Common.{◌≡◌, ◌-◌}
use Rattle.epic_window.specs.Counts.{in_slots}
use Rattle.epic_window.proofs.slots.without.Given as goal

abbrev pub invariant-loop-past : goal.invariant-loop-past
invariant-loop-past l = l.left ≡ l.live - in_slots l.slots.entries l.asn l.from l.past
