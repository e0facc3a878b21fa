use Rattle.std.proofs.Common.{◌≡◌, take}
use Rattle.std.specs.List.{concat}
use Rattle.epic_audit.proofs.dest_message.fields.Given as goal

-- the fields so far
abbrev pub invariant-loop-j : goal.invariant-loop-j
invariant-loop-j l = l.bytes.items ≡ concat (take l.j l.packet.fields)
