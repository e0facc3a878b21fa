use Rattle.std.proofs.Common.{◌≡◌, take}
use Rattle.std.specs.List.{flat_map}
use Rattle.epic_layout.specs.Spelling.{hop_bytes}
use Rattle.epic_fields.proofs.FedLemmas.{fed}
use Rattle.epic_fields.proofs.destination.feed_hops.Given as goal

-- the items so far were fed
abbrev pub invariant-loop-j : goal.invariant-loop-j
invariant-loop-j l = l.state ≡ fed l.initial.state (flat_map hop_bytes (take l.j l.packet.route.hops))
