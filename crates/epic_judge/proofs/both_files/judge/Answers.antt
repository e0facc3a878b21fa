use Rattle.std.proofs.Common.{◌≡◌, Err, sym, subst, rules, arith}
use Rattle.epic_judging.specs.Judgment.{IsJudgment}
use Rattle.epic_judge.proofs.BothLaws.{ledger_refused, too_long}
use Rattle.epic_judge.proofs.both_files.judge.Goals as goal

pub returns-in_err-checked : goal.returns-in_err-checked
returns-in_err-checked c =
    let e = c.in_err-checked.field-0.0 in
    let is : c.from_residual.result ≡ Err e = search rules in
    subst (IsJudgment c.args.topo.now c.args.ledger.now c.args.verdicts.now) (sym is)
    (ledger_refused c.args.topo.now c.args.ledger.now c.args.verdicts.now e c.in_err-checked.ensures)

pub returns-then-verdicts-gt-MAX_VERDICTS : goal.returns-then-verdicts-gt-MAX_VERDICTS
returns-then-verdicts-gt-MAX_VERDICTS c =
    too_long c.args.topo.now c.args.ledger.now c.args.verdicts.now c.in_ok-checked.ensures (omega (arith, c.if-verdicts-gt-MAX_VERDICTS.true))
