use Rattle.std.proofs.Common.{rules, ◌≡◌, IfOk, map, take, length}
use Rattle.std.specs.List.{slice_split}
use Rattle.std.proofs.lemmas.Iterator.{YieldsList-from_take}
use Rattle.std.proofs.lemmas.Iterator.Consumers.{map_from_collect}
use Rattle.std.proofs.lemmas.Iterator.Splits.{YieldsList-from_slice_split}
use Rattle.epic_text.proofs.Short.{collected_short}
use Rattle.epic_text.specs.RunScript.{is_comma}
use Rattle.epic_record.proofs.Keys.{first_parts_short}
use Rattle.epic_record.proofs.key_word.first_parts.Goals as goal
use borrow.Author.Tests.{tests}

collected : (c : goal.After-collect) → IfOk c.collect.result (λ v. map (λ part. part.now) v.items ≡ take 7 (slice_split is_comma c.args.text.now))
collected c =
    map_from_collect {s = c.take.result} _ c.collect.ensures.ran
    (YieldsList-from_take 7
    (YieldsList-from_slice_split _ is_comma c.args.text.now (cc) (cc) (cc) (λ x b q k. search (rules, tests)))
    (cc))

pub returns : goal.returns
returns c = record {
  value = collected c;
  within = collected_short (length c.args.text.now) (take 7 (slice_split is_comma c.args.text.now)) (first_parts_short c.args.text.now) c.collect.result (collected c);
}
