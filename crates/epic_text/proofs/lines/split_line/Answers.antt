use Rattle.std.proofs.Common.{sym, ◌∙◌}
use Rattle.std.proofs.lemmas.List.{take_rest}
use Rattle.epic_text.proofs.Parts.{parts_some, parts_none}
use Rattle.epic_text.proofs.lines.split_line.Goals as goal

pub returns-in-Some-clause-parts : goal.returns-in-Some-clause-parts
returns-in-Some-clause-parts c =
    rw take_rest (parts_some c.args.text.now c.in-Some.end (sym c.line_end.ensures ∙ c.in-Some.is))

pub returns-in-None-clause-parts : goal.returns-in-None-clause-parts
returns-in-None-clause-parts c = parts_none c.args.text.now (sym c.line_end.ensures ∙ c.in-None.is) c.requires
