use Rattle.epic_topo.proofs.Linked.{names_readable}
use Rattle.epic_topo.proofs.laws.ases_have_readable_names.Goals as goal

pub returns : goal.returns
returns c = names_readable
