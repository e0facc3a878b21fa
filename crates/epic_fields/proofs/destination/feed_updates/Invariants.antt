use Rattle.std.proofs.Common.{◌≡◌, take}
use Rattle.std.specs.List.{flat_map}
use Rattle.epic_layout.specs.Contents.{field_bytes}
use Rattle.epic_fields.proofs.FedLemmas.{fed}
use Rattle.epic_fields.proofs.destination.feed_updates.Given as goal

-- the updates so far were fed
abbrev pub invariant-loop-update : goal.invariant-loop-update
invariant-loop-update l = l.state ≡ fed l.initial.state (flat_map field_bytes (take l.update-index l.updates))
