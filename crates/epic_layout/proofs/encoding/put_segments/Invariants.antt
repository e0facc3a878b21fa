use Rattle.std.proofs.Common.{◌≡◌, ◌++◌, ◌<◌, ◌^◌, take}
use Rattle.std.specs.List.{All, flat_map}
use Rattle.epic_layout.specs.Packets.{segment_head_of}
use Rattle.epic_layout.specs.Spelling.{segment_bytes}
use Rattle.epic_layout.proofs.encoding.put_segments.Given as goal

abbrev pub invariant-loop-segment : goal.invariant-loop-segment
invariant-loop-segment l = record {
  put : l.out.items ≡ l.initial.out.items ++ flat_map (λ s. segment_bytes (segment_head_of s)) (take l.segment-index l.segments);
  fits : All (λ s. s.ts_path < 2 ^ 32) (take l.segment-index l.segments);
}
