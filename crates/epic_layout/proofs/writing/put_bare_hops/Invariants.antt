use Rattle.std.proofs.Common.{◌≡◌, ◌++◌, take}
use Rattle.std.specs.List.{All, flat_map}
use Rattle.epic_layout.specs.Contents.{IsHop}
use Rattle.epic_layout.specs.Spelling.{hop_bytes}
use Rattle.epic_layout.proofs.writing.put_bare_hops.Given as goal

abbrev pub invariant-loop-head : goal.invariant-loop-head
invariant-loop-head l = record {
  put : l.out.items ≡ l.initial.out.items ++ flat_map (λ h. hop_bytes h ++ l.zeros) (take l.head-index l.hops);
  fits : All IsHop (take l.head-index l.hops);
}
