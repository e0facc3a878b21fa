use Rattle.std.proofs.Common.{◌≡◌, ◌≤◌, ℕ, List, [], ◌++◌, length}
use Rattle.epic_ports.specs.Written.{Appends}
use Rattle.epic_ports.proofs.whole.write_all.Given as goal

abbrev pub invariant-loop-rest : goal.invariant-loop-rest
invariant-loop-rest g l =
    ((front : List ℕ) × (l.bytes ≡ front ++ l.rest)
    × Appends (g.O.Sink.written l.initial.sink) (g.O.Sink.written l.sink) front)
    × (g.O.Sink.faults l.initial.sink ≤ g.O.Sink.faults l.sink)
    × (l.bytes ≡ [] → l.sink ≡ l.initial.sink)

abbrev pub decreases-loop-rest : goal.decreases-loop-rest
decreases-loop-rest g l = length l.rest
