use Rattle.std.proofs.Common.{◌≡◌, take}
use Rattle.std.specs.List.{flat_map}
use Rattle.epic_layout.specs.Spelling.{segment_bytes}
use Rattle.epic_audit.proofs.dest_message.segment_heads.Given as goal

-- the heads so far
abbrev pub invariant-loop-i : goal.invariant-loop-i
invariant-loop-i l = l.bytes.items ≡ flat_map segment_bytes (take l.i l.packet.route.segments)
