use Rattle.std.proofs.Common.{◌≡◌, map, ◌≤◌, ◌*◌}
use Rattle.std.specs.List.{range_with_len}
use Rattle.epic_layout.specs.Route.{hops_of}
use Rattle.epic_layout.specs.Layout.{segment_at}
use Rattle.epic_layout.proofs.checking.hops_of.Given as goal

abbrev pub invariant-loop-i : goal.invariant-loop-i
invariant-loop-i l = record {
  hops : l.hops ≡ hops_of (map (segment_at l.bytes) (range_with_len 0 l.i));
  fits : l.hops ≤ 255 * l.i;
}
