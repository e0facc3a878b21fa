use Rattle.epic_model.proofs.InvSent.{next_is_unsent}
use Rattle.epic_model.proofs.laws.timestamps_are_new.Goals as goal

pub returns : goal.returns
returns c = next_is_unsent
