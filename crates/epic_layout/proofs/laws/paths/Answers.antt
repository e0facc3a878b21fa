use Rattle.epic_layout.proofs.OneSpelling.{paths_are_one}
use Rattle.epic_layout.proofs.laws.paths.Goals as goal

pub returns : goal.returns
returns c = paths_are_one
