use Rattle.epic_aes.specs.declared.tables.TheConstants.{ONE_FIRST, ONE_SECOND}
use Rattle.std.proofs.Common.{◌≡◌, ◌∙◌, ap, map, bit_xor, arith}
use Rattle.std.specs.Simd.Lanes.{zip2}
use Rattle.epic_aes.specs.Lanes.{entry, state_of}
use Rattle.epic_aes.specs.declared.tables.TheConstants.{ONE_COLUMN_ON, TWO_COLUMNS_ON}
use Rattle.epic_aes.proofs.ByteLemmas.{half_sum_is}
use Rattle.epic_aes.proofs.ScheduleLemmas.{next_key_lanes}
use Rattle.epic_aes.proofs.schedule.next_key.Goals as goal

pub returns : goal.returns
returns c =
    let key = c.args.key in
    let one = c.half_sum-turned.result in
    let constants = c.enter-constants.result in
    let turned = half_sum_is ONE_FIRST ONE_SECOND c.look_up-last.result _ _ _ c.halves.ensures.first c.halves.ensures.second c.half_sum-turned.ensures in
    (λ i. state_of 0 (zip2 bit_xor (zip2 bit_xor (zip2 bit_xor key (c.look_up.ensures i)) (twos c i)) (zip2 bit_xor one constants)))
    ∙ next_key_lanes key c.look_up-last.result one constants c.args.constant c.fits-key.0 c.fits-key.1
    (omega arith) c.enter-constants.ensures.bytes c.look_up-last.ensures turned c.enter-constants.ensures.value
  where
    twos : (c : goal.After-enter-constants) → c.look_up-2.result
        ≡ map (entry (zip2 bit_xor c.args.key (map (entry c.args.key) ONE_COLUMN_ON))) TWO_COLUMNS_ON
    twos c = c.look_up-2.ensures ∙ ap (λ y. map (entry (zip2 bit_xor c.args.key y)) TWO_COLUMNS_ON) c.look_up.ensures
