-- The maps lead to the topology's ASes and links, with one more link.
use Rattle.std.proofs.Common.{◌≡◌, ◌<◌, length, sym, ◌∙◌, rules}
use Rattle.epic_topo.proofs.Indexed.{indexed_link, ok_part, ok_value}
use Rattle.epic_topo.proofs.queries.Topology.with_link.Goals as goal

pub invariant_of-result : goal.invariant_of-result
invariant_of-result c =
    let put = ok_part c.insert.result _ (sym c.is_err.ensures.value ∙ c.if-is_err.false) c.insert.ensures.updates in
    let then = ok_part c.insert-else-is_err.result _ (sym c.is_err-else-is_err.ensures.value ∙ c.if-is_err-2.false)
    c.insert-else-is_err.ensures.updates in
    let items = ok_value c.push.result _ _ _ (sym c.is_err-else-is_err-2.ensures.value ∙ c.if-is_err-3.false)
    c.push.ensures.items in
    let place : c.len-place.result ≡ length c.self.inside.links.items = search rules in
    let few : length c.self.inside.links.items < 16384 = rw (← c.self.view_is) at c.requires.few in
    rw items (indexed_link c.self.inside.system_places c.self.inside.link_places c.insert.new.self c.insert-else-is_err.new.self
    _ c.args.link c.self.invariant few (rw (← c.self.view_is) at c.requires.new) (rw (← place) put.0) (rw (← place) then.0))
