use Rattle.std.proofs.Common.{◌≡◌}
use Rattle.epic_router.proofs.tests.a_packet_comes_to_a_router_twice_where_its_way_does.Given as goal

abbrev pub invariant-loop-hop : goal.invariant-loop-hop
invariant-loop-hop g l = l.router.window.profile ≡ l.topo-inside.profile
