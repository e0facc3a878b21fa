use Rattle.std.proofs.Common.{◌<◌, ◌+◌, [], ◌∷◌, Err, length, ap, sym, subst, arith, ◌∙◌}
use Rattle.std.specs.Prelude.{is_none}
use Rattle.epic_audit.specs.Holds.{AtDest}
use Rattle.epic_layout.specs.Layout.{parse}
use Rattle.epic_ledger.specs.Facts.{facts_of}
use Rattle.epic_text.specs.Lines.{parts}
use Rattle.epic_record.specs.declared.fault.FileKind.TheVariants.{Missing}
use Rattle.epic_judge.specs.Reaching.{IsRead, IsReached, Reached}
use Rattle.epic_judge.proofs.NextLine.{asked_is, behind_reached, none_left, nothing}
use Rattle.epic_judge.proofs.accepted.judge_dest.Goals as goal

pub returns-then-is_empty : goal.returns-then-is_empty
returns-then-is_empty c more =
    let v = c.progress.view_is in
    none_left (record { packet = parse c.args.bytes.now; subject = AtDest }) c.args.progress (sym (ap (λ (p : Reached). p.rest) v) ∙ nothing c.progress.inside.rest.now c.if-is_empty.ensures) more
    ∙ ap (λ (p : Reached). Err (p.number + 1, Missing)) (sym v)

pub behind-requires : goal.behind-requires
behind-requires c = omega (arith, c.requires.few, c.split_line.ensures.shorter, ap (λ (p : Reached). length p.rest) c.progress.view_is)

pub returns : goal.returns
returns c =
    let t = c.args.index.now.network in
    let f = facts_of c.args.index.now.history in
    let line = c.split_line.result.0.now in
    let v = c.progress.view_is in
    let asked = asked_is c.progress.inside.first c.is_none-asked.result c.is_none-asked.ensures ∙ ap (λ (p : Reached). is_none p.first) v in
    subst (IsReached t f ((record { packet = parse c.args.bytes.now; subject = AtDest }) ∷ []) c.args.progress) (sym c.behind.ensures)
    (behind_reached t f (record { packet = parse c.args.bytes.now; subject = AtDest }) c.args.progress line c.split_line.result.1.now (ap (λ (p : Reached). parts p.rest) (sym v) ∙ c.split_line.ensures.parts) c.dest_line-read.result
    (subst (λ (p : Reached). length c.split_line.result.1.now < length p.rest) v c.split_line.ensures.shorter)
    (subst (λ b. IsRead t f (record { packet = parse c.args.bytes.now; subject = AtDest }) b line c.dest_line-read.result) asked c.dest_line-read.ensures))
