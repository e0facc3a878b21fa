use Rattle.std.proofs.Common.{length}
use Rattle.epic_judge.proofs.reveals.+any_revealed_at.Given as goal

abbrev pub decreases-any_revealed_at : goal.decreases-any_revealed_at
decreases-any_revealed_at l = length l.holders.now
