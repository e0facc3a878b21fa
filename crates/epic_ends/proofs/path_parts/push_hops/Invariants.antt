use Rattle.std.proofs.Common.{◌≡◌, ◌++◌, take}
use Rattle.epic_ends.proofs.path_parts.push_hops.Given as goal

abbrev pub invariant-loop-hop : goal.invariant-loop-hop
invariant-loop-hop l = l.all.items ≡ l.fn.all.items ++ take l.hop-index l.hops
