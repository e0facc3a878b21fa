use Rattle.epic_judge.proofs.SentAs.{by_known}
use Rattle.epic_judge.proofs.dest_sent.known_name_by.Goals as goal

pub returns-clause-known : goal.returns-clause-known
returns-clause-known c = by_known c.args.index.now.network c.args.index.now.history c.args.event c.args.hop _ c.requires c.name_by.ensures
