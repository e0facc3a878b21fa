use Rattle.epic_policer.proofs.Passing.{policers_apart}
use Rattle.epic_policer.proofs.laws.policers_stand_apart.Goals as goal

pub returns : goal.returns
returns c = policers_apart
