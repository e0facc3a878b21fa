use Rattle.std.proofs.Common.{rules, ◌≡◌, IfOk, map, length, nat_lt}
use Rattle.std.proofs.lemmas.Iterator.Consumers.{map_from_collect, YieldsList-from_filter}
use Rattle.std.proofs.lemmas.Iterator.Splits.{YieldsList-from_slice_split}
use Rattle.epic_text.specs.Lines.{is_blank, words}
use Rattle.epic_text.proofs.Short.{collected_short, words_short}
use Rattle.epic_text.proofs.lines.words.Goals as goal
use borrow.Author.Tests.{tests}

collected : (c : goal.After-collect) → IfOk c.collect.result (λ v. map (λ word. word.now) v.items ≡ words c.args.line.now)
collected c =
    map_from_collect {s = c.filter.result} _ c.collect.ensures.ran
    (YieldsList-from_filter {s = c.filter.result} _ (λ word. nat_lt 0 (length word))
    (YieldsList-from_slice_split _ is_blank c.args.line.now (cc) (cc) (cc) (λ x b q k. search (rules, tests)))
    c.filter.ensures.closure (λ x b q k. search (rules, tests)))

pub returns : goal.returns
returns c = record {
  value = collected c;
  within = collected_short (length c.args.line.now) (words c.args.line.now) (words_short c.args.line.now) c.collect.result (collected c);
}
