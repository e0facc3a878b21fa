use Rattle.std.proofs.Common.{rules, map, subst}
use Rattle.epic_record.specs.Words.{IsLine}
use Rattle.epic_record.proofs.Pieces.{item_by_first}
use Rattle.epic_record.proofs.reading.read_item.Goals as goal

pub returns : goal.returns
returns c =
    subst (λ r. IsLine r c.item_by_words.result) (item_by_first c.args.line.now (map (λ word. word.now) c.deref.result.now) (search rules) (search rules)) c.item_by_words.ensures
