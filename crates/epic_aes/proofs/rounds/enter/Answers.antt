use Rattle.epic_aes.proofs.ByteLemmas.{lanes_bytes}
use Rattle.epic_aes.proofs.MixLemmas.{enter_lanes}
use Rattle.epic_aes.proofs.rounds.enter.Goals as goal

pub returns-clause-value : goal.returns-clause-value
returns-clause-value c = enter_lanes c.args.block c.nibble_sum.result c.fits-block.0 c.fits-block.1 c.nibble_sum.ensures

pub returns-clause-bytes : goal.returns-clause-bytes
returns-clause-bytes c = lanes_bytes c.args.block c.nibble_sum.result c.fits-block.1 c.nibble_sum.ensures
