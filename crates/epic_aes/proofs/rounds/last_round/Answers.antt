use Rattle.std.proofs.Common.{◌∙◌, ap, bit_xor}
use Rattle.std.specs.Simd.Lanes.{zip2}
use Rattle.epic_aes.specs.Lanes.{state_of}
use Rattle.epic_aes.specs.declared.tables.TheConstants.{ONE_FIRST, ONE_SECOND}
use Rattle.epic_aes.proofs.ByteLemmas.{half_sum_is}
use Rattle.epic_aes.proofs.MixLemmas.{last_round_lanes}
use Rattle.epic_aes.proofs.rounds.last_round.Goals as goal

pub returns : goal.returns
returns c =
    ap (λ y. state_of 0 (zip2 bit_xor y c.args.key)) c.look_up.ensures
    ∙ last_round_lanes c.args.x c.args.key c.half_sum-one.result c.fits-x.0 c.fits-x.1 c.fits-key.0 c.fits-key.1
    (half_sum_is ONE_FIRST ONE_SECOND c.args.x _ _ _ c.halves.ensures.first c.halves.ensures.second c.half_sum-one.ensures)
