use Rattle.std.proofs.Common.{◌≡◌, map}
use Rattle.std.specs.List.{range_with_len}
use Rattle.epic_layout.specs.Layout.{segments_in}
use Rattle.epic_layout.specs.Laws.{hops_before}
use Rattle.epic_layout.specs.Decoding.{packet_segment_at}
use Rattle.epic_layout.proofs.decoding.segments_from.Given as goal

abbrev pub invariant-loop-i : goal.invariant-loop-i
invariant-loop-i l = record {
  made : l.segments.items ≡ map (packet_segment_at l.bytes) (range_with_len 0 l.i);
  passed : l.passed ≡ hops_before (segments_in l.bytes) l.i;
}
