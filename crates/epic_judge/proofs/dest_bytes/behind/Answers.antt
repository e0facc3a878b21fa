use Rattle.std.proofs.Common.{sym, ap, ◌∙◌}
use Rattle.std.specs.Prelude.{option_copied}
use Rattle.epic_judge.specs.Compared.{behind}
use Rattle.epic_judge.proofs.ByPieces.{stripped}
use Rattle.epic_judge.proofs.dest_bytes.behind.Goals as goal

pub returns-in-Some : goal.returns-in-Some
returns-in-Some c =
    stripped c.args.piece.now c.in-Some.bytes.now c.strip_prefix.result c.strip_prefix.ensures.cases
    ∙ ap (λ r. behind c.args.piece.now (option_copied r)) (sym c.in-Some.is)
