use Rattle.epic_aes.proofs.MixLemmas.{leave_lanes}
use Rattle.epic_aes.proofs.rounds.leave.Goals as goal

pub returns : goal.returns
returns c = leave_lanes c.args.x c.nibble_sum.result c.fits-x.0 c.nibble_sum.ensures
