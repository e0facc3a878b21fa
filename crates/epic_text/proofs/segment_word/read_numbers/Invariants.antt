use Rattle.std.proofs.Common.{◌≡◌, ◌≤◌, drop, length}
use Rattle.epic_text.proofs.SegmentLemmas.{after, numbers_from}
use Rattle.epic_text.proofs.segment_word.read_numbers.Given as goal

-- the numbers so far and those of the words that are left are all
abbrev pub invariant-loop-part : goal.invariant-loop-part
invariant-loop-part l = record {
  all : numbers_from l.parts ≡ after l.numbers.items (numbers_from (drop l.part-index l.parts));
  count : length l.numbers.items ≡ l.part-index;
  few : length l.parts ≤ 3;
}
