use Rattle.std.proofs.Common.{rules, map, ◌∙◌}
use Rattle.epic_record.proofs.Keys.{key_by_first}
use Rattle.epic_record.proofs.key_word.key_in.Goals as goal

pub returns : goal.returns
returns c = c.key_of.ensures ∙ key_by_first c.args.text.now (map (λ part. part.now) c.deref.result.now) (search rules)
