-- Nothing stands at a place past the last, and each AS has one place.
use Rattle.std.proofs.Common.{None, option_map, slice_get, ap, ◌∙◌}
use Rattle.epic_topo.specs.Network.{as_at}
use Rattle.epic_topo.specs.declared.network.System.{System}
use Rattle.epic_topo.proofs.Finds.{lent_item}
use Rattle.epic_topo.proofs.Linked.{one_place_each}
use Rattle.epic_topo.proofs.queries.Topology.as_at.Goals as goal

pub returns-in-None-clause-value : goal.returns-in-None-clause-value
unfolding as_at
returns-in-None-clause-value c =
    rw (← c.self.view_is) (ap (option_map (λ (s : System). s.asn))
    (lent_item c.deref.result.now c.args.i None c.in-None.ensures.lookup ∙ ap (λ xs. slice_get xs c.args.i) c.deref.ensures.value))

pub returns-in-Some-clause-once : goal.returns-in-Some-clause-once
returns-in-Some-clause-once c = rw (← c.self.view_is) (one_place_each _ c.self.invariant.lawful)

pub returns-in-None-clause-once : goal.returns-in-None-clause-once
returns-in-None-clause-once c = rw (← c.self.view_is) (one_place_each _ c.self.invariant.lawful)
