use Rattle.epic_model.proofs.Telling.{honest_carries_arrive, honest_carries_are_proved}
use Rattle.epic_model.proofs.laws.honest_carries_arrive.Goals as goal

pub returns-clause-arrive : goal.returns-clause-arrive
returns-clause-arrive c = honest_carries_arrive

pub returns-clause-proved : goal.returns-clause-proved
returns-clause-proved c = honest_carries_are_proved
