use Rattle.std.proofs.Common.{◌≡◌, ◌*◌, ◌≤◌, length, take}
use Rattle.epic_layout.specs.Packets.{all_hops}
use Rattle.epic_layout.proofs.valid.hop_total.Given as goal

abbrev pub invariant-loop-segment : goal.invariant-loop-segment
invariant-loop-segment l = record {
  counted : l.total ≡ length (all_hops (take l.segment-index l.segments));
  few : l.total ≤ 16 * l.segment-index;
}
