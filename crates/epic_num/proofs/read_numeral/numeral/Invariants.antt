use Rattle.std.proofs.Common.{◌≤◌, length, take}
use Rattle.epic_num.specs.Names.{Writes}
use Rattle.epic_num.proofs.read_numeral.numeral.Given as goal

abbrev pub invariant-loop-i : goal.invariant-loop-i
invariant-loop-i l = (l.i ≤ length l.text) × Writes l.base l.least l.most (take l.i l.text) l.front
