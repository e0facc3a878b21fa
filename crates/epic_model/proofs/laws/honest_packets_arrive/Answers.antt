use Rattle.epic_model.proofs.Carrying.{honest_packets_arrive, honest_packets_are_proved}
use Rattle.epic_model.proofs.laws.honest_packets_arrive.Goals as goal

pub returns-clause-arrive : goal.returns-clause-arrive
returns-clause-arrive c = honest_packets_arrive

pub returns-clause-proved : goal.returns-clause-proved
returns-clause-proved c = honest_packets_are_proved
