use Rattle.epic_num.specs.Names.{number_within}
use Rattle.epic_num.proofs.read.read_number.Goals as goal

pub returns-in-Ok-clause-ok : goal.returns-in-Ok-clause-ok
unfolding number_within
returns-in-Ok-clause-ok c = c.in-Ok.ensures.ok

pub returns-in-Err-clause-err : goal.returns-in-Err-clause-err
unfolding number_within
returns-in-Err-clause-err c = c.in-Err.ensures.err
