use Rattle.epic_model.proofs.Stepping.{worlds_start, worlds_go_on}
use Rattle.epic_model.proofs.laws.worlds_go_on.Goals as goal

pub returns-clause-start : goal.returns-clause-start
returns-clause-start c = worlds_start

pub returns-clause-steps : goal.returns-clause-steps
returns-clause-steps c = worlds_go_on
