-- The map leads to the link at the interface.
use Rattle.std.proofs.Common.{sym, subst}
use Rattle.epic_topo.specs.Index.{IsPlace}
use Rattle.epic_topo.specs.Network.{ends_at}
use Rattle.epic_topo.proofs.Finds.{lent_item}
use Rattle.epic_topo.proofs.queries.Topology.link_at.Goals as goal

pub returns-in-Some-clause-value : goal.returns-in-Some-clause-value
returns-in-Some-clause-value c =
    let place = subst (IsPlace (ends_at c.args.asn c.args.iface) c.self.inside.links.items) (sym c.in-Some.ensures.value)
    (c.self.invariant.each_end c.args.asn c.args.iface) in
    rw (← c.self.view_is, ← place.1, ← c.deref.ensures.value) (lent_item c.deref.result.now c.in-Some.place.now c.get-in-Some.result c.get-in-Some.ensures.lookup)

pub returns-in-None-clause-value : goal.returns-in-None-clause-value
returns-in-None-clause-value c =
    rw (← c.self.view_is) (sym (subst (IsPlace (ends_at c.args.asn c.args.iface) c.self.inside.links.items)
    (sym c.in-None.ensures.value) (c.self.invariant.each_end c.args.asn c.args.iface)))
