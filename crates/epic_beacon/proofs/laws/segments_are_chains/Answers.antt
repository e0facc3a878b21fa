use Rattle.epic_beacon.proofs.Formed.{segment_is}
use Rattle.epic_beacon.proofs.Sigmas.{segments_have_sigmas}
use Rattle.epic_beacon.proofs.laws.segments_are_chains.Goals as goal

pub returns-clause-chains : goal.returns-clause-chains
returns-clause-chains c = segment_is

pub returns-clause-sigmas : goal.returns-clause-sigmas
returns-clause-sigmas c = segments_have_sigmas
