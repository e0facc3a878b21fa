use Rattle.epic_topo.proofs.Linked.{one_place_each}
use Rattle.epic_topo.proofs.laws.each_as_has_one_place.Goals as goal

pub returns : goal.returns
returns c = one_place_each
