use Rattle.std.proofs.Common.{length}
use Rattle.epic_holders.proofs.chains.+is_in_chains.Given as goal

abbrev pub decreases-is_in_chains : goal.decreases-is_in_chains
decreases-is_in_chains l = length l.numbers.now
