use Rattle.std.proofs.Common.{◌≡◌, take}
use Rattle.std.specs.List.{flat_map}
use Rattle.epic_layout.specs.Spelling.{hop_bytes}
use Rattle.epic_audit.proofs.dest_message.hop_heads.Given as goal

-- the heads so far
abbrev pub invariant-loop-j : goal.invariant-loop-j
invariant-loop-j l = l.bytes.items ≡ flat_map hop_bytes (take l.j l.packet.route.hops)
