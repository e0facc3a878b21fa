use Rattle.std.proofs.Common.{◌≡◌, ◌≤◌, length, take}
use Rattle.epic_record.specs.Places.{counts_of}
use Rattle.epic_record.proofs.places.counts_of.Given as goal

abbrev pub invariant-loop-i : goal.invariant-loop-i
invariant-loop-i l = record {
  so_far : l.counts.items ≡ take l.i (counts_of l.packet);
  all : l.i-end ≡ length l.packet.route.segments;
  few : length l.packet.route.segments ≤ 3;
}
