use Rattle.std.proofs.Common.{◌≡◌, take}
use Rattle.std.specs.Prelude.{option_copied}
use Rattle.std.specs.List.{flat_map}
use Rattle.epic_layout.specs.Spelling.{segment_bytes}
use Rattle.epic_judge.specs.Compared.{behind}
use Rattle.epic_judge.proofs.dest_bytes.behind_segments.Given as goal

abbrev pub invariant-loop-i : goal.invariant-loop-i
invariant-loop-i l = option_copied l.more ≡ behind (flat_map segment_bytes (take l.i l.packet.route.segments)) (option_copied l.initial.rest)
