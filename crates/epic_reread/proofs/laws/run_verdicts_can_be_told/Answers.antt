use Rattle.epic_reread.proofs.RunVerdicts.{verdicts_can_be_told}
use Rattle.epic_reread.proofs.laws.run_verdicts_can_be_told.Goals as goal

pub returns : goal.returns
returns c = verdicts_can_be_told
