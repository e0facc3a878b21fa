use Rattle.std.proofs.Common.{◌≡◌, ◌≤◌, ℕ, List, ◌++◌, drop, flat_map}
use Rattle.epic_ports.specs.Written.{Appends}
use Rattle.epic_app.proofs.end.write_pieces.Given as goal

-- what was written, and the pieces to come, are all pieces
abbrev pub invariant-loop-piece : goal.invariant-loop-piece
invariant-loop-piece g l =
    ((front : List ℕ) × Appends (g.E.Sink.written l.initial.err) (g.E.Sink.written l.err) front
    × (flat_map (λ piece. piece.now) l.pieces ≡ front ++ flat_map (λ piece. piece.now) (drop l.piece-index l.pieces)))
    × (g.E.Sink.faults l.initial.err ≤ g.E.Sink.faults l.err)
