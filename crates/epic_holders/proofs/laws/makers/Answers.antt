use Rattle.epic_holders.proofs.Worth.{makers_hold, makers_agree, makers_stay}
use Rattle.epic_holders.proofs.laws.makers.Goals as goal

pub returns-clause-hold : goal.returns-clause-hold
returns-clause-hold c = makers_hold

pub returns-clause-agree : goal.returns-clause-agree
returns-clause-agree c = makers_agree

pub returns-clause-stay : goal.returns-clause-stay
returns-clause-stay c = makers_stay
