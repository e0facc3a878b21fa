use Rattle.std.proofs.Common.{map, ◌∙◌}
use Rattle.std.proofs.lemmas.Nat.{and_mask}
use Rattle.std.proofs.lemmas.Simd.{zip2_splat}
use Rattle.epic_aes.proofs.lanes.low_nibbles.Goals as goal

pub returns : goal.returns
returns c = zip2_splat _ c.args.x 16 15 c.fits-x.0 ∙ (λ i. map (λ b. and_mask b 4 i) c.args.x)
