use Rattle.std.proofs.Common.{arith}
use Rattle.epic_aes.proofs.ScheduleLemmas.{round_key_lanes}
use Rattle.epic_aes.proofs.schedule.round_key.Goals as goal

pub returns : goal.returns
returns c =
    round_key_lanes c.args.n c.requires c.args.key c.enter.result c.look_up.result c.fits-key.0 c.fits-key.1
    (omega arith) c.enter.ensures.bytes c.enter.ensures.value c.look_up.ensures
