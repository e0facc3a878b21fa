use Rattle.std.proofs.Common.{refl}
use Rattle.epic_policer.proofs.Passing.{stand_new}
use Rattle.epic_policer.proofs.Tables.{none_like}
use Rattle.epic_policer.proofs.policers.Policers.new.Goals as goal

pub invariant_of-result : goal.invariant_of-result
invariant_of-result c = (c.requires, none_like _ _ _ c.new.ensures.empty)

pub returns-clause-stand : goal.returns-clause-stand
returns-clause-stand c = stand_new _ _ refl c.new.ensures.empty
