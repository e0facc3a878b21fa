use Rattle.epic_topo.proofs.Linked.{links_lead_back}
use Rattle.epic_topo.proofs.laws.links_lead_back.Goals as goal

pub returns : goal.returns
returns c = links_lead_back
