use Rattle.std.proofs.Common.{rules, map, subst}
use Rattle.epic_record.specs.Words.{IsLine}
use Rattle.epic_record.proofs.VerdictPieces.{told_at_hop-by_first}
use Rattle.epic_record.proofs.verdict_reading.read_hop_verdict.Goals as goal

pub returns : goal.returns
returns c =
    subst (λ r. IsLine r c.hop_told.result) (told_at_hop-by_first c.args.hop c.args.line.now (map (λ word. word.now) c.deref.result.now) (search rules) (search rules)) c.hop_told.ensures
