use Rattle.epic_num.proofs.SameLaws.{same_host-Decides}
use Rattle.epic_ends.proofs.arriving.end_refusal.Goals as goal

pub returns-clause-host : goal.returns-clause-host
returns-clause-host c = (same_host-Decides c.args.packet.now.dst c.args.host).0 (cc)
