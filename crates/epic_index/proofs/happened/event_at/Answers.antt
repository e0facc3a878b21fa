use Rattle.epic_index.proofs.Happening.{event_there}
use Rattle.epic_index.proofs.happened.event_at.Goals as goal

pub returns-clause-there : goal.returns-clause-there
returns-clause-there c = event_there _ _ c.event.result c.events-events.ensures.lawful c.event.ensures
