use Rattle.std.proofs.Common.{◌≡◌, take}
use Rattle.std.specs.Prelude.{option_copied}
use Rattle.std.specs.List.{flat_map}
use Rattle.epic_layout.specs.Spelling.{hop_bytes}
use Rattle.epic_judge.specs.Compared.{behind}
use Rattle.epic_judge.proofs.dest_bytes.behind_hops.Given as goal

abbrev pub invariant-loop-j : goal.invariant-loop-j
invariant-loop-j l = option_copied l.more ≡ behind (flat_map hop_bytes (take l.j l.packet.route.hops)) (option_copied l.initial.rest)
