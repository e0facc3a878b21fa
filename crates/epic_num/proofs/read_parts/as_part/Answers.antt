use Rattle.std.proofs.Common.{ap, ◌∙◌}
use Rattle.std.specs.Option.{option_or}
use Rattle.epic_num.specs.Names.{as_part_of, groups_of, small_part_of}
use Rattle.epic_num.proofs.Misspelt.{IsMisspelt-option_or}
use Rattle.epic_num.proofs.read_parts.as_part.Goals as goal

pub returns-in-Ok-default-clause-ok : goal.returns-in-Ok-default-clause-ok
unfolding as_part_of
returns-in-Ok-default-clause-ok c = ap (λ o. option_or o (groups_of c.args.text.now)) c.in-Ok-default.ensures.ok

pub returns-in-Err-Ok-clause-ok : goal.returns-in-Err-Ok-clause-ok
unfolding as_part_of
returns-in-Err-Ok-clause-ok c =
    ap (λ o. option_or o (groups_of c.args.text.now)) c.in-Err-Ok.ensures.err.unread ∙ c.in-Err-Ok.ensures'.ok

pub returns-in-Err-Err-clause-err : goal.returns-in-Err-Err-clause-err
unfolding as_part_of
returns-in-Err-Err-clause-err c = rw c.max.ensures
    (IsMisspelt-option_or (small_part_of c.args.least) groups_of c.args.text.now c.in-Err-Err.at c.in-Err-Err.other
    c.in-Err-Err.ensures.err c.in-Err-Err.ensures'.err)
