use Rattle.std.proofs.Common.{◌≡◌, ◌≤◌, ◌*◌, take}
use Rattle.epic_num.specs.Paths.{hop_count}
use Rattle.epic_actors.proofs.sending.hop_count.Given as goal

abbrev pub invariant-loop-leg : goal.invariant-loop-leg
invariant-loop-leg l = (l.hops ≡ hop_count (take l.leg-index l.legs)) × (l.hops ≤ 16 * l.leg-index)
