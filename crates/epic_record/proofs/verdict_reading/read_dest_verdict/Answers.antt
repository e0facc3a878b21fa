use Rattle.std.proofs.Common.{rules, map, subst}
use Rattle.epic_record.specs.Words.{IsLine}
use Rattle.epic_record.proofs.VerdictPieces.{told_at_dest-by_first}
use Rattle.epic_record.proofs.verdict_reading.read_dest_verdict.Goals as goal

pub returns : goal.returns
returns c =
    subst (λ r. IsLine r c.dest_told.result) (told_at_dest-by_first c.args.line.now (map (λ word. word.now) c.deref.result.now) (search rules) (search rules)) c.dest_told.ensures
