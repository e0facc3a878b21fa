use Rattle.epic_aes.proofs.MixLemmas.{sum_lanes}
use Rattle.epic_aes.proofs.rounds.sum.Goals as goal

pub returns : goal.returns
returns c = sum_lanes c.args.x c.args.y c.fits-x.0 c.fits-x.1 c.fits-y.0 c.fits-y.1
