use Rattle.epic_audit.proofs.Passed.{event_here}
use Rattle.epic_holders.proofs.Sent.{event_fits}
use Rattle.epic_holders.proofs.events.event_at.Goals as goal

pub returns-clause-here : goal.returns-clause-here
returns-clause-here c = event_here c.args.ledger.now.history c.args.index c.event.result c.in-Some.event c.event.ensures c.in-Some.is

pub returns-clause-fits : goal.returns-clause-fits
returns-clause-fits c =
    event_fits c.args.ledger.now.history c.args.index c.event.result c.in-Some.event c.requires.lawful c.event.ensures c.in-Some.is
