use Rattle.epic_actors.proofs.Sendable.{last_small}
use Rattle.epic_actors.proofs.sending.send_at.Goals as goal

pub admit-requires-clause-last : goal.admit-requires-clause-last
admit-requires-clause-last c = last_small _ _ _ _ c.requires.world c.requires.few_steps c.args.src
