use Rattle.epic_model.proofs.Once.{nothing_twice, turns_stay_once, arrivals_stay_once}
use Rattle.epic_model.proofs.laws.none_twice.Goals as goal

pub returns-clause-nothing : goal.returns-clause-nothing
returns-clause-nothing c = nothing_twice

pub returns-clause-turns : goal.returns-clause-turns
returns-clause-turns c = turns_stay_once

pub returns-clause-arrivals : goal.returns-clause-arrivals
returns-clause-arrivals c = arrivals_stay_once
