use Rattle.std.proofs.Common.{length}
use Rattle.epic_record.proofs.places.+are_ends.Given as goal

abbrev pub decreases-are_ends : goal.decreases-are_ends
decreases-are_ends l = length l.numbers.now
