use Rattle.std.proofs.Common.{◌≡◌, ◌≤◌, ◌*◌, All, length, take}
use Rattle.epic_path.specs.Joins.{hops_of}
use Rattle.epic_path.proofs.joining.hops_of.Given as goal

abbrev pub invariant-loop-segment : goal.invariant-loop-segment
invariant-loop-segment l =
    (l.hops ≡ hops_of (take l.segment-index l.segments)) × (l.hops ≤ 16 * l.segment-index)
    × All (λ s. length s.hops.items ≤ 16) (take l.segment-index l.segments)
