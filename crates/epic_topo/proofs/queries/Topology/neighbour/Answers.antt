-- The link leads back from its other end.
use Rattle.std.proofs.Common.{sym}
use Rattle.epic_topo.proofs.Linked.{linked_at}
use Rattle.epic_topo.proofs.queries.Topology.neighbour.Goals as goal

pub returns-clause-linked : goal.returns-clause-linked
returns-clause-linked c =
    rw c.other_end.ensures (linked_at c.args.self.now c.args.asn c.args.iface c.in_ok-link.link.now
    c.in_ok-link.ensures.lawful (sym c.in_ok-link.ensures.value))
