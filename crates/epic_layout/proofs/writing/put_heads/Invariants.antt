use Rattle.std.proofs.Common.{◌≡◌, ◌++◌, ◌<◌, ◌^◌, take}
use Rattle.std.specs.List.{All, flat_map}
use Rattle.epic_layout.specs.Spelling.{segment_bytes}
use Rattle.epic_layout.proofs.writing.put_heads.Given as goal

abbrev pub invariant-loop-head : goal.invariant-loop-head
invariant-loop-head l = record {
  put : l.out.items ≡ l.initial.out.items ++ flat_map segment_bytes (take l.head-index l.segments);
  fits : All (λ s. s.ts_path < 2 ^ 32) (take l.head-index l.segments);
}
