use Rattle.std.proofs.Common.{rules, ◌≡◌, IfOk, map, take, length}
use Rattle.std.proofs.lemmas.Iterator.{YieldsList-from_take}
use Rattle.std.proofs.lemmas.Iterator.Consumers.{map_from_collect}
use Rattle.std.proofs.lemmas.Iterator.Splits.{YieldsList-from_slice_split}
use Rattle.epic_text.proofs.Short.{collected_short}
use Rattle.epic_record.specs.Words.{is_space, pieces}
use Rattle.epic_record.proofs.Pieces.{first_words_short}
use Rattle.epic_record.proofs.split_words.first_words.Goals as goal
use borrow.Author.Tests.{tests}

collected : (c : goal.After-collect) → IfOk c.collect.result (λ v. map (λ word. word.now) v.items ≡ take 12 (pieces c.args.line.now))
collected c =
    map_from_collect {s = c.take.result} _ c.collect.ensures.ran
    (YieldsList-from_take 12
    (YieldsList-from_slice_split _ is_space c.args.line.now (cc) (cc) (cc) (λ x b q k. search (rules, tests)))
    (cc))

pub returns : goal.returns
returns c = record {
  value = collected c;
  within = collected_short (length c.args.line.now) (take 12 (pieces c.args.line.now)) (first_words_short c.args.line.now) c.collect.result (collected c);
}
