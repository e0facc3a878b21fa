use Rattle.epic_policer.proofs.Keeping.{kept_room}
use Rattle.epic_policer.proofs.Nodes.{same_entries, same_queue}
use Rattle.epic_policer.proofs.policer.Policer.reserve.Goals as goal

pub invariant_of-self : goal.invariant_of-self
invariant_of-self c =
    kept_room _ _ _ _ _ c.self.invariant (same_entries _ _ c.reserve.ensures.b c.reserve.ensures.values)
    (same_queue _ _ c.reserve.ensures.b c.reserve.ensures.values c.self.invariant.queue) c.reserve.ensures.a

pub returns-clause-passed : goal.returns-clause-passed
returns-clause-passed c = rw (← c.self.view_is) (same_entries _ _ c.reserve.ensures.b c.reserve.ensures.values)
