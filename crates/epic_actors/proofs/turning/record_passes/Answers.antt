use Rattle.std.proofs.Common.{refl}
use Rattle.epic_ledger.specs.History.{step_of}
use Rattle.epic_actors.proofs.Leaving.{last_more}
use Rattle.epic_actors.proofs.turning.record_passes.Goals as goal

pub push-requires-clause-last : goal.push-requires-clause-last
unfolding step_of
push-requires-clause-last c = c.requires.last

pub push-requires-then-hops-gt1-clause-last : goal.push-requires-then-hops-gt1-clause-last
unfolding step_of
push-requires-then-hops-gt1-clause-last c = rw c.push.ensures.events (last_more _ _ _ c.requires.last refl)
