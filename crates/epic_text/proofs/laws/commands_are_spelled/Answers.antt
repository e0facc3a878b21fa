use Rattle.epic_text.proofs.Spelled.{commands_spelled}
use Rattle.epic_text.proofs.laws.commands_are_spelled.Goals as goal

pub returns : goal.returns
returns c = commands_spelled
