use Rattle.epic_model.proofs.Telling.{verdicts_are_right}
use Rattle.epic_model.proofs.laws.verdicts_are_right.Goals as goal

pub returns : goal.returns
returns c = verdicts_are_right
