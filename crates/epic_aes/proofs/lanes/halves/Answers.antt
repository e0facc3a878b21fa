use Rattle.epic_aes.specs.Lanes.{first_half, second_half}
use Rattle.epic_aes.proofs.ByteLemmas.{high_of, sum_of, first_part, second_part, low_places, high_places, sum_places, first_part_places, second_part_places, first_half_places, second_half_places, over_is, sum_is, part_is, half_is}
use Rattle.epic_aes.proofs.lanes.halves.Goals as goal

pub look_up-over-requires : goal.look_up-over-requires
look_up-over-requires c = low_places c.args.x _ c.fits-x.1 c.low_nibbles-low.ensures

pub look_up-requires : goal.look_up-requires
look_up-requires c = high_places c.args.x _ c.fits-x.1 c.high_nibbles-high.ensures

pub look_up-requires-2 : goal.look_up-requires-2
look_up-requires-2 c =
    let overs = over_is c.args.x _ _ c.low_nibbles-low.ensures c.look_up-over.ensures in
    first_part_places c.args.x _ c.fits-x.1 (part_is high_of c.args.x _ _ _ c.high_nibbles-high.ensures c.look_up.ensures overs)

pub look_up-requires-3 : goal.look_up-requires-3
look_up-requires-3 c = sum_places c.args.x _ c.fits-x.1 (sum_is c.args.x _ _ c.low_nibbles-low.ensures c.high_nibbles-high.ensures)

pub look_up-requires-4 : goal.look_up-requires-4
look_up-requires-4 c =
    let overs = over_is c.args.x _ _ c.low_nibbles-low.ensures c.look_up-over.ensures in
    let sums = sum_is c.args.x _ _ c.low_nibbles-low.ensures c.high_nibbles-high.ensures in
    second_part_places c.args.x _ c.fits-x.1 (part_is sum_of c.args.x _ _ _ sums c.look_up-3.ensures overs)

pub returns-clause-first : goal.returns-clause-first
unfolding first_half
returns-clause-first c =
    let overs = over_is c.args.x _ _ c.low_nibbles-low.ensures c.look_up-over.ensures in
    let sums = sum_is c.args.x _ _ c.low_nibbles-low.ensures c.high_nibbles-high.ensures in
    let parts = part_is high_of c.args.x _ _ _ c.high_nibbles-high.ensures c.look_up.ensures overs in
    half_is first_part sum_of c.args.x _ _ _ parts c.look_up-2.ensures sums

pub returns-clause-second : goal.returns-clause-second
unfolding second_half
returns-clause-second c =
    let overs = over_is c.args.x _ _ c.low_nibbles-low.ensures c.look_up-over.ensures in
    let sums = sum_is c.args.x _ _ c.low_nibbles-low.ensures c.high_nibbles-high.ensures in
    let parts = part_is sum_of c.args.x _ _ _ sums c.look_up-3.ensures overs in
    half_is second_part high_of c.args.x _ _ _ parts c.look_up-4.ensures c.high_nibbles-high.ensures

pub returns-clause-first_places : goal.returns-clause-first_places
returns-clause-first_places c = first_half_places c.args.x _ c.fits-x.1 (returns-clause-first c)

pub returns-clause-second_places : goal.returns-clause-second_places
returns-clause-second_places c = second_half_places c.args.x _ c.fits-x.1 (returns-clause-second c)
