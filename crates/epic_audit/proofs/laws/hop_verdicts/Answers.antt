use Rattle.epic_audit.proofs.Hop.{hop_verdicts}
use Rattle.epic_audit.proofs.laws.hop_verdicts.Goals as goal

pub returns : goal.returns
returns c = hop_verdicts
