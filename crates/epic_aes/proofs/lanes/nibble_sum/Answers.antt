use Rattle.std.proofs.Common.{◌/◌, ◌%◌, bit_xor}
use Rattle.std.proofs.lemmas.Simd.{zip2_of_maps}
use Rattle.epic_aes.specs.Lanes.{entry, nibble_sum}
use Rattle.epic_aes.proofs.ByteLemmas.{low_of, high_of, low_places, high_places}
use Rattle.epic_aes.proofs.LaneLemmas.{map-composed}
use Rattle.epic_aes.proofs.lanes.nibble_sum.Goals as goal

pub look_up-requires : goal.look_up-requires
look_up-requires c = low_places c.args.x _ c.fits-x.1 c.low_nibbles.ensures

pub look_up-requires-2 : goal.look_up-requires-2
look_up-requires-2 c = high_places c.args.x _ c.fits-x.1 c.high_nibbles.ensures

pub returns : goal.returns
unfolding nibble_sum
returns c =
    zip2_of_maps bit_xor (λ b. entry c.args.low (b % 16)) (λ b. entry c.args.high (b / 16)) c.args.x
    (map-composed low_of (entry c.args.low) c.args.x _ _ c.low_nibbles.ensures c.look_up.ensures)
    (map-composed high_of (entry c.args.high) c.args.x _ _ c.high_nibbles.ensures c.look_up-2.ensures)
