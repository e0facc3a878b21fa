use Rattle.std.proofs.Common.{◌≡◌, ◌++◌, take}
use Rattle.std.specs.List.{All, flat_map}
use Rattle.epic_layout.specs.Packets.{FitsRow, row_of}
use Rattle.epic_layout.proofs.encoding.put_all_hops.Given as goal

abbrev pub invariant-loop-segment : goal.invariant-loop-segment
invariant-loop-segment l = record {
  put : l.out.items ≡ l.initial.out.items ++ flat_map (λ s. flat_map row_of s.hops.items) (take l.segment-index l.segments);
  fits : All (λ s. All FitsRow s.hops.items) (take l.segment-index l.segments);
}
