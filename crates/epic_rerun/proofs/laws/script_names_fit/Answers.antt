use Rattle.epic_rerun.proofs.ScriptNames.{script_names_fit}
use Rattle.epic_rerun.proofs.laws.script_names_fit.Goals as goal

pub returns : goal.returns
returns c = script_names_fit c.commands_are_spelled.ensures
