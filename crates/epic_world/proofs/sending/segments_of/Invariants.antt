use Rattle.std.proofs.Common.{◌≡◌, take}
use Rattle.std.specs.Prelude.{Ok}
use Rattle.arrayvec.specs.ArrayVec.{array_vec_len}
use Rattle.epic_model.specs.Steps.{segments_of}
use Rattle.epic_world.proofs.sending.segments_of.Given as goal

abbrev pub invariant-loop-number : goal.invariant-loop-number
invariant-loop-number l =
    (segments_of l.beacons.beacons (take l.number-index l.numbers) ≡ Ok l.segments.items) × (array_vec_len l.segments ≡ l.number-index)
