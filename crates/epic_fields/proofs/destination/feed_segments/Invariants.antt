use Rattle.std.proofs.Common.{◌≡◌, take}
use Rattle.std.specs.List.{flat_map}
use Rattle.epic_layout.specs.Spelling.{segment_bytes}
use Rattle.epic_fields.proofs.FedLemmas.{fed}
use Rattle.epic_fields.proofs.destination.feed_segments.Given as goal

-- the items so far were fed
abbrev pub invariant-loop-i : goal.invariant-loop-i
invariant-loop-i l = l.state ≡ fed l.initial.state (flat_map segment_bytes (take l.i l.packet.route.segments))
