use Rattle.std.proofs.Common.{◌≡◌, take}
use Rattle.std.specs.Prelude.{option_copied}
use Rattle.std.specs.List.{flat_map}
use Rattle.epic_judge.specs.Compared.{behind}
use Rattle.epic_judge.proofs.dest_bytes.behind_own.Given as goal

abbrev pub invariant-loop-hop : goal.invariant-loop-hop
invariant-loop-hop l = option_copied l.more ≡ behind (flat_map (λ v. v) (take l.hop l.packet.fields)) (option_copied l.initial.rest)
