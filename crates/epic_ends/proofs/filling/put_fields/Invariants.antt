use Rattle.std.proofs.Common.{◌≡◌, ◌++◌, drop, map, take, None, Ok}
use Rattle.epic_num.specs.Levels.{is_first_byte}
use Rattle.epic_layout.specs.Contents.{field_bytes}
use Rattle.epic_layout.specs.Layout.{checked, fault, parse}
use Rattle.epic_layout.specs.Spelling.{spelling}
use Rattle.epic_ends.proofs.filling.put_fields.Given as goal

abbrev pub invariant-loop-j : goal.invariant-loop-j
invariant-loop-j l = record {
  shape : Ok l.shape ≡ checked l.bytes;
  packet : parse l.bytes ≡ record (parse l.fn.bytes) { fields = take l.j (map field_bytes l.fields) ++ drop l.j (parse l.fn.bytes).fields };
  spelled : l.bytes ≡ spelling (parse l.bytes);
  faultless : fault is_first_byte l.bytes ≡ None;
}
