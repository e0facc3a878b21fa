use Rattle.epic_topo.proofs.ReadLawful.{read_lawful}
use Rattle.epic_topo.proofs.laws.texts_tell_of_lawful_topologies.Goals as goal

pub returns : goal.returns
returns c = read_lawful
