use Rattle.std.proofs.Common.{◌≡◌, ℕ, ◌<◌}
use Rattle.epic_layout.specs.Pieces.{piece}
use Rattle.epic_layout.specs.Layout.{hop_offset}
use Rattle.epic_view.proofs.reading.same_path.Given as goal

abbrev pub invariant-loop-hop : goal.invariant-loop-hop
invariant-loop-hop l = (j : ℕ) → j < l.hop → piece l.left (hop_offset l.left j) 13 ≡ piece l.right (hop_offset l.right j) 13
