use Rattle.epic_rerun.proofs.Running.{runs_are_told}
use Rattle.epic_rerun.proofs.laws.runs_are_told.Goals as goal

pub returns : goal.returns
returns c = runs_are_told c.held_verdicts_fit.ensures c.other_hops_are_there.ensures c.run_verdicts_can_be_told.ensures
