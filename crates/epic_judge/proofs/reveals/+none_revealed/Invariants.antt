use Rattle.std.proofs.Common.{length}
use Rattle.epic_judge.proofs.reveals.+none_revealed.Given as goal

abbrev pub decreases-none_revealed : goal.decreases-none_revealed
decreases-none_revealed l = length l.holders.now
