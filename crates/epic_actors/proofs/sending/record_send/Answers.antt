use Rattle.epic_ledger.specs.History.{step_of}
use Rattle.epic_actors.proofs.sending.record_send.Goals as goal

pub push-requires-clause-last : goal.push-requires-clause-last
unfolding step_of
push-requires-clause-last c = rw c.emit-emission.ensures.events c.requires.last
