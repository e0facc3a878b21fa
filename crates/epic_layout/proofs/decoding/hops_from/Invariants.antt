use Rattle.std.proofs.Common.{◌≡◌, length, map}
use Rattle.std.specs.List.{range_with_len}
use Rattle.epic_layout.specs.Decoding.{packet_hop_at}
use Rattle.epic_layout.proofs.decoding.hops_from.Given as goal

abbrev pub invariant-loop-i : goal.invariant-loop-i
invariant-loop-i l = record {
  hops : l.hops.items ≡ map (packet_hop_at l.bytes) (range_with_len l.from l.i);
  size : length l.hops.items ≡ l.i;
}
