use Rattle.epic_reread.proofs.JudgedTrue.{judged_true}
use Rattle.epic_reread.proofs.laws.given_verdicts_are_judged_true.Goals as goal

pub returns : goal.returns
returns c = judged_true
