use Rattle.std.proofs.Common.{length}
use Rattle.epic_record.proofs.event_words.+numbers_text.Given as goal

abbrev pub decreases-numbers_text : goal.decreases-numbers_text
decreases-numbers_text l = length l.numbers.now
