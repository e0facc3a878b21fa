use Rattle.std.proofs.Common.{sym, ap, ◌∙◌}
use Rattle.std.specs.Prelude.{option_copied}
use Rattle.epic_judge.specs.Compared.{is_rest}
use Rattle.epic_judge.proofs.ByPieces.{is_rest_joined}
use Rattle.epic_judge.proofs.dest_bytes.ends_with.Goals as goal

pub returns-in-Some : goal.returns-in-Some
returns-in-Some c =
    c.eq.ensures
    ∙ (ap (is_rest c.args.payload.now) (ap option_copied (sym c.in-Some.is) ∙ c.behind.ensures)
    ∙ sym (is_rest_joined c.args.size.now c.args.payload.now (option_copied c.args.rest)))

pub returns-in-None : goal.returns-in-None
returns-in-None c =
    ap (is_rest c.args.payload.now) (ap option_copied (sym c.in-None.is) ∙ c.behind.ensures)
    ∙ sym (is_rest_joined c.args.size.now c.args.payload.now (option_copied c.args.rest))
