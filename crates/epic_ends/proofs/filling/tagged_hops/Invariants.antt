use Rattle.std.proofs.Common.{◌≡◌, length, map, All}
use Rattle.std.specs.List.{range_with_len}
use Rattle.epic_num.specs.Levels.{width_of}
use Rattle.epic_layout.specs.Contents.{field_bytes}
use Rattle.epic_ends.specs.Filling.{field_by, update_by}
use Rattle.epic_ends.proofs.filling.tagged_hops.Given as goal

abbrev pub invariant-loop-j : goal.invariant-loop-j
invariant-loop-j l = record {
  same : l.keys ≡ l.fn.keys;
  fields : map field_bytes l.fields.items ≡ map (field_by l.topo l.hops l.packet) (range_with_len 0 l.j);
  field_widths : All (λ f. f.width ≡ width_of l.packet.first) l.fields.items;
  field_count : length l.fields.items ≡ l.j;
  updates : map field_bytes l.updates.items ≡ map (update_by l.topo l.hops l.packet) (range_with_len 0 l.j);
  update_widths : All (λ u. u.width ≡ width_of l.packet.first) l.updates.items;
  update_count : length l.updates.items ≡ l.j;
}
