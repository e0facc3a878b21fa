use Rattle.std.proofs.Common.{◌≡◌, length, map, take}
use Rattle.epic_layout.specs.PathRoutes.{hop_head}
use Rattle.epic_ends.proofs.path_parts.hop_heads.Given as goal

abbrev pub invariant-loop-j : goal.invariant-loop-j
invariant-loop-j l = record { written : take l.j l.heads ≡ map hop_head (take l.j l.hops); size : length l.heads ≡ 32 }
