use Rattle.std.proofs.Common.{◌≡◌}
use Rattle.std.specs.HashMap.{spare}
use Rattle.epic_num.specs.declared.name.AsId.{AsId}
use Rattle.epic_window.specs.Counts.{total_of, discounted}
use Rattle.epic_window.proofs.sweep.discount.Given as goal

abbrev pub invariant-loop-key : goal.invariant-loop-key
invariant-loop-key l = record {
  left : (a : AsId) → discounted l.key-iterator a l.first (total_of l.totals.entries a) ≡ discounted l.turns.entries a l.first (total_of l.initial.totals.entries a);
  spare : spare l.totals ≡ spare l.initial.totals;
}
