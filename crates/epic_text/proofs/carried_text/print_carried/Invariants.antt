use Rattle.std.proofs.Common.{◌≡◌, ◌++◌, drop}
use Rattle.epic_text.specs.Report.{IsToldCarry, carried_text, emission_bytes}
use Rattle.epic_text.proofs.carried_text.print_carried.Given as goal

-- the lines so far and those of the passes that are left are all, and each of these can be told
abbrev pub invariant-loop-k : goal.invariant-loop-k
invariant-loop-k l = record {
  told : IsToldCarry l.topo (emission_bytes l.ledger.history.emissions) l.next (drop l.k l.passes);
  all : carried_text l.topo (emission_bytes l.ledger.history.emissions) l.step l.came l.notes 0 l.passes
      ≡ l.lines.items ++ carried_text l.topo (emission_bytes l.ledger.history.emissions) l.step l.next l.notes l.k (drop l.k l.passes);
}
