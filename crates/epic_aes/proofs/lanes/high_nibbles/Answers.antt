use Rattle.std.proofs.lemmas.Simd.{zip2_splat}
use Rattle.epic_aes.proofs.lanes.high_nibbles.Goals as goal

pub returns : goal.returns
returns c = zip2_splat _ c.args.x 16 4 c.fits-x.0
