use Rattle.std.proofs.Common.{Ok, Err}
use Rattle.epic_judging.specs.declared.judged.JudgeError.TheVariants.{Ledger, Verdicts}
use Rattle.epic_app.proofs.JudgmentLaws.{answered}
use Rattle.epic_app.proofs.judge.judged.Goals as goal

pub returns-in-Ok : goal.returns-in-Ok
returns-in-Ok c =
    answered c.judgments_are_decided.ensures c.args.topo.now c.args.ledger.now c.args.verdicts.now (Ok c.in-Ok.said) c.in-Ok.ensures

pub returns-in-Err-Ledger : goal.returns-in-Err-Ledger
returns-in-Err-Ledger c =
    answered c.judgments_are_decided.ensures c.args.topo.now c.args.ledger.now c.args.verdicts.now
    (Err (Ledger c.in-Err-Ledger.line c.in-Err-Ledger.kind)) (rw c.in-Err-Ledger.field-0-is at c.in-Err-Ledger.ensures)

pub returns-in-Err-Verdicts : goal.returns-in-Err-Verdicts
returns-in-Err-Verdicts c =
    answered c.judgments_are_decided.ensures c.args.topo.now c.args.ledger.now c.args.verdicts.now
    (Err (Verdicts c.in-Err-Verdicts.line c.in-Err-Verdicts.kind)) (rw c.in-Err-Verdicts.field-0-is at c.in-Err-Verdicts.ensures)
