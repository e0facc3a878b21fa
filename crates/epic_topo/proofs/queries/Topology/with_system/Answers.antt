-- The maps lead to the topology's ASes and links, with one more AS.
use Rattle.std.proofs.Common.{◌≡◌, ◌<◌, length, sym, ◌∙◌, rules}
use Rattle.epic_topo.proofs.Indexed.{indexed_system, ok_part, ok_value}
use Rattle.epic_topo.proofs.queries.Topology.with_system.Goals as goal

pub invariant_of-result : goal.invariant_of-result
invariant_of-result c =
    let put = ok_part c.insert.result _ (sym c.is_err.ensures.value ∙ c.if-is_err.false) c.insert.ensures.updates in
    let items = ok_value c.push.result _ _ _ (sym c.is_err-else-is_err.ensures.value ∙ c.if-is_err-2.false) c.push.ensures.items in
    let place : c.len.result ≡ length c.self.inside.systems.items = search rules in
    let few : length c.self.inside.systems.items < 4096 = rw (← c.self.view_is) at c.requires.few in
    rw items (indexed_system c.self.inside.system_places c.insert.new.self c.self.inside.link_places _ c.args.system
    c.self.invariant (rw (← c.self.view_is) at c.requires.no_links) few (rw (← c.self.view_is) at c.requires.new)
    (rw (← place) put.0))
