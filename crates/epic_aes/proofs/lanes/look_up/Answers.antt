use Rattle.std.proofs.Common.{refl, arith}
use Rattle.std.specs.Int.{w8}
use Rattle.std.proofs.lemmas.Simd.{SwzOk-from_Each1}
use Rattle.epic_aes.proofs.LaneLemmas.{each_place, swizzle_entries}
use Rattle.epic_aes.proofs.lanes.look_up.Goals as goal

pub swizzle : goal.swizzle
swizzle c = SwzOk-from_Each1 w8 16 1 16 0 c.args.places refl (omega (arith, c.fits-places.0)) (each_place c.args.places c.requires)

pub returns : goal.returns
returns c = swizzle_entries c.args.table c.args.places 0 (omega (arith, c.fits-places.0))
