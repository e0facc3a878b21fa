use Rattle.epic_judging.proofs.Claimed.{each_is_claimed}
use Rattle.epic_judging.proofs.OneJudgment.{judgments_exist, judgments_are_one}
use Rattle.epic_judging.proofs.laws.judgments_are_one.Goals as goal

pub returns-clause-exist : goal.returns-clause-exist
returns-clause-exist c = judgments_exist

pub returns-clause-one : goal.returns-clause-one
returns-clause-one c = judgments_are_one

pub returns-clause-each : goal.returns-clause-each
returns-clause-each c = each_is_claimed
