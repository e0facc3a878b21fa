use Rattle.epic_model.proofs.Travelled.{sent_packets_have_roads}
use Rattle.epic_model.proofs.laws.sent_packets_have_roads.Goals as goal

pub returns : goal.returns
returns c = sent_packets_have_roads
