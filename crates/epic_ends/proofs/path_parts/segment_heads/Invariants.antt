use Rattle.std.proofs.Common.{◌≡◌, length, map, take}
use Rattle.epic_layout.specs.PathRoutes.{head_of}
use Rattle.epic_ends.proofs.path_parts.segment_heads.Given as goal

abbrev pub invariant-loop-i : goal.invariant-loop-i
invariant-loop-i l = record { written : take l.i l.heads ≡ map head_of (take l.i l.legs); size : length l.heads ≡ 3 }
