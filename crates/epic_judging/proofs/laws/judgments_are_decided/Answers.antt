use Rattle.epic_judging.proofs.Meaning.{judgments_are_decided}
use Rattle.epic_judging.proofs.laws.judgments_are_decided.Goals as goal

pub returns : goal.returns
returns c = judgments_are_decided
