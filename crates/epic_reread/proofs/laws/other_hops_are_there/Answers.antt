use Rattle.epic_reread.proofs.OtherHops.{other_hops_there}
use Rattle.epic_reread.proofs.laws.other_hops_are_there.Goals as goal

pub returns : goal.returns
returns c = other_hops_there
