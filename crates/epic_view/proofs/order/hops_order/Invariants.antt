use Rattle.std.proofs.Common.{◌≡◌, ◌-◌}
use Rattle.std.specs.Cmp.Lexicographic.{slice_cmp}
use Rattle.std.specs.Ordering.{nat_cmp}
use Rattle.epic_layout.specs.Layout.{hops_in}
use Rattle.epic_view.specs.Pieces.{hop_rows}
use Rattle.epic_view.proofs.order.hops_order.Given as goal

abbrev pub invariant-loop-hop : goal.invariant-loop-hop
invariant-loop-hop l =
    slice_cmp nat_cmp (hop_rows l.left 0 (hops_in l.left)) (hop_rows l.right 0 (hops_in l.right))
    ≡ slice_cmp nat_cmp (hop_rows l.left l.hop (hops_in l.left - l.hop)) (hop_rows l.right l.hop (hops_in l.right - l.hop))
