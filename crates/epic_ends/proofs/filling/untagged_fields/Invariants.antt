use Rattle.std.proofs.Common.{◌≡◌, length, map, All}
use Rattle.std.specs.List.{range_with_len}
use Rattle.epic_num.specs.Levels.{width_of}
use Rattle.epic_layout.specs.Contents.{field_bytes}
use Rattle.epic_topo.specs.Network.{Network}
use Rattle.epic_ends.specs.Filling.{field_by}
use Rattle.epic_ends.proofs.filling.untagged_fields.Given as goal

abbrev pub invariant-loop-j : goal.invariant-loop-j
invariant-loop-j l = record {
  fields : (t : Network) → map field_bytes l.fields.items ≡ map (field_by t l.hops l.packet) (range_with_len 0 l.j);
  widths : All (λ f. f.width ≡ width_of l.packet.first) l.fields.items;
  count : length l.fields.items ≡ l.j;
}
