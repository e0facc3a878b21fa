use Rattle.epic_ends.proofs.Arrivals.{arrivals_are_right}
use Rattle.epic_ends.proofs.laws.arrivals_are_right.Goals as goal

pub returns : goal.returns
returns c = arrivals_are_right
