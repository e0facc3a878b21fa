use Rattle.epic_model.proofs.SentKept.{sends_are_kept}
use Rattle.epic_model.proofs.laws.sends_are_kept.Goals as goal

pub returns : goal.returns
returns c = sends_are_kept
