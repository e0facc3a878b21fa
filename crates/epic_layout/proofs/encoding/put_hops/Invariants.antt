use Rattle.std.proofs.Common.{◌≡◌, ◌++◌, take}
use Rattle.std.specs.List.{All, flat_map}
use Rattle.epic_layout.specs.Packets.{FitsRow, row_of}
use Rattle.epic_layout.proofs.encoding.put_hops.Given as goal

abbrev pub invariant-loop-hop : goal.invariant-loop-hop
invariant-loop-hop l = record {
  put : l.out.items ≡ l.initial.out.items ++ flat_map row_of (take l.hop-index l.hops);
  fits : All FitsRow (take l.hop-index l.hops);
}
