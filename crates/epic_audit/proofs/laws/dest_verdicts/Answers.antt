use Rattle.epic_audit.proofs.Dest.{dest_verdicts}
use Rattle.epic_audit.proofs.laws.dest_verdicts.Goals as goal

pub returns : goal.returns
returns c = dest_verdicts
