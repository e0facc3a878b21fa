use Rattle.epic_path.proofs.WalkLaws.{joins_are_lawful}
use Rattle.epic_path.proofs.joining.joins_are_lawful.Goals as goal

pub returns : goal.returns
returns c = joins_are_lawful
