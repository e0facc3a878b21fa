use Rattle.epic_reread.proofs.HeldVerdicts.{held_verdicts_fit}
use Rattle.epic_reread.proofs.laws.held_verdicts_fit.Goals as goal

pub returns : goal.returns
returns c = held_verdicts_fit
