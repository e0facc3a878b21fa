use Rattle.epic_ends.proofs.Made.{sent_packets_are_made, made_packets_have_fields, made_packets_are_spelled}
use Rattle.epic_ends.proofs.laws.sent_packets_are_right.Goals as goal

pub returns-clause-made : goal.returns-clause-made
returns-clause-made c = sent_packets_are_made

pub returns-clause-fields : goal.returns-clause-fields
returns-clause-fields c = made_packets_have_fields

pub returns-clause-spelled : goal.returns-clause-spelled
returns-clause-spelled c = made_packets_are_spelled
