use Rattle.std.proofs.Common.{◌≡◌, ℕ, List, ◌++◌, length}
use Rattle.epic_ports.specs.Faults.{CountsOnly}
use Rattle.epic_ports.specs.Files.{Grows}
use Rattle.epic_ports.proofs.whole.append_all.Given as goal

-- what was added, and the rest, are all bytes
abbrev pub invariant-loop-rest : goal.invariant-loop-rest
invariant-loop-rest g l = record {
  added : (front : List ℕ) × (l.bytes ≡ front ++ l.rest)
      × Grows (g.S.Store.contents l.initial.store) (g.S.Store.contents l.store) l.name front;
  reads : g.S.Store.reads l.store ≡ g.S.Store.reads l.initial.store;
  writes : CountsOnly l.name (g.S.Store.writes l.initial.store) (g.S.Store.writes l.store);
}

abbrev pub decreases-loop-rest : goal.decreases-loop-rest
decreases-loop-rest g l = length l.rest
