use Rattle.std.proofs.Common.{◌≡◌, map, ◌≤◌, ◌*◌}
use Rattle.std.specs.List.{range_with_len, list_any}
use Rattle.epic_layout.specs.Route.{hops_of}
use Rattle.epic_layout.specs.Layout.{is_reserved, is_miscounted, segment_at}
use Rattle.epic_layout.proofs.checking.heads_of.Given as goal

abbrev pub invariant-loop-i : goal.invariant-loop-i
invariant-loop-i l = record {
  reserved : l.is_reserved ≡ list_any (is_reserved l.bytes) (range_with_len 0 l.i);
  counted : l.is_miscounted ≡ list_any (is_miscounted l.bytes) (range_with_len 0 l.i);
  hops : l.hops ≡ hops_of (map (segment_at l.bytes) (range_with_len 0 l.i));
  fits : l.hops ≤ 255 * l.i;
}
