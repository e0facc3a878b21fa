use Rattle.std.proofs.Common.{◌≡◌, take}
use Rattle.epic_num.specs.Paths.{path_hops}
use Rattle.epic_ends.proofs.path_parts.hops_of.Given as goal

abbrev pub invariant-loop-leg : goal.invariant-loop-leg
invariant-loop-leg l = l.hops.items ≡ path_hops (take l.leg-index l.legs)
