use Rattle.std.proofs.Common.{◌+◌, ◌∙◌, ap}
use Rattle.epic_aes.specs.Lanes.{state_of}
use Rattle.epic_aes.specs.declared.tables.TheConstants.{ONE_FIRST, ONE_SECOND, TWO_FIRST, TWO_SECOND}
use Rattle.epic_aes.proofs.ByteLemmas.{half_sum_is}
use Rattle.epic_aes.proofs.MixLemmas.{round_lanes}
use Rattle.epic_aes.proofs.rounds.round.Goals as goal

pub returns : goal.returns
returns c =
    let ones = half_sum_is ONE_FIRST ONE_SECOND c.args.x _ _ _ c.halves-halves.ensures.first c.halves-halves.ensures.second c.half_sum-one.ensures in
    let twos = half_sum_is TWO_FIRST TWO_SECOND c.args.x _ _ _ c.halves-halves.ensures.first c.halves-halves.ensures.second c.half_sum-two.ensures in
    ap (state_of (c.args.n + 1)) c.mix.ensures
    ∙ round_lanes c.args.n c.requires c.args.x c.args.key _ _ c.fits-x.0 c.fits-x.1 c.fits-key.0 c.fits-key.1 ones twos
