use Rattle.std.proofs.Common.{◌≤◌, length}
use Rattle.epic_bench.proofs.way.packet.Given as goal

abbrev pub invariant-loop-hop : goal.invariant-loop-hop
invariant-loop-hop l = length l.hops.items ≤ l.hop-index
