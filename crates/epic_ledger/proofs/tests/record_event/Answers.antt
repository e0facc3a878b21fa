use Rattle.epic_ledger.proofs.Growing.{IsLast-push}
use Rattle.epic_ledger.proofs.tests.record_event.Goals as goal

pub push-requires-clause-last : goal.push-requires-clause-last
push-requires-clause-last c = rw c.requires.step c.requires.before

pub returns-clause-after : goal.returns-clause-after
returns-clause-after c = rw c.push.ensures.events (IsLast-push _ c.args.event 7 c.requires.before c.requires.step)
