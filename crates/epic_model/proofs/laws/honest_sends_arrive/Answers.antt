use Rattle.epic_model.proofs.FromInv.{honest_sends_arrive, honest_sends_are_proved, inv_twice}
use Rattle.epic_model.proofs.laws.honest_sends_arrive.Goals as goal

pub returns-clause-arrive : goal.returns-clause-arrive
returns-clause-arrive c = honest_sends_arrive

pub returns-clause-proved : goal.returns-clause-proved
returns-clause-proved c = honest_sends_are_proved

pub returns-clause-twice : goal.returns-clause-twice
returns-clause-twice c = inv_twice
