use Rattle.epic_rerun.proofs.Running.{runs_are_judged_true}
use Rattle.epic_rerun.proofs.laws.runs_are_judged_true.Goals as goal

pub returns : goal.returns
returns c = runs_are_judged_true c.runs_are_told.ensures c.placed_ledgers_are_read_back.ensures.read c.given_verdicts_are_judged_true.ensures
