use Rattle.std.proofs.Common.{◌≡◌, Ok, Err, refl, sym, subst, rules, arith}
use Rattle.epic_ledger.specs.Facts.{facts_of}
use Rattle.epic_record.specs.LedgerLine.{item_of}
use Rattle.epic_judging.specs.Judgment.{IsJudgment}
use Rattle.epic_judge.specs.BothFiles.{Judging}
use Rattle.epic_judge.specs.Reaching.{IsReached, Reached, accepted_in}
use Rattle.epic_judge.proofs.BothLaws.{all_taken, begins, emptied, ledger_short, line_placed, line_refused, line_sound, line_taken}
use Rattle.epic_judge.proofs.both_files.judge_lines.Goals as goal

pub loop-rest-init : goal.loop-rest-init
loop-rest-init c =
    let x = c.args.index.now in
    record {
      judging =
          subst (λ (p : Reached). Judging x.network c.args.ledger.now c.args.verdicts.now c.args.ledger.now p x) (sym c.at_first-progress.ensures)
          (begins x.network c.args.ledger.now c.args.verdicts.now x c.requires.items c.requires.within refl c.requires.events c.requires.emissions);
      short = ledger_short x.network c.args.ledger.now c.requires.items;
    }

pub judge_line-requires-clause-sound : goal.judge_line-requires-clause-sound
judge_line-requires-clause-sound c =
    line_sound c.args.index.now.network c.args.ledger.now c.args.verdicts.now c.loop-rest.rest.now c.split_line.result.0.now c.split_line.result.1.now
    c.loop-rest.progress c.loop-rest.index c.loop-rest.invariant.judging c.split_line.ensures.parts

pub judge_line-requires-clause-placed : goal.judge_line-requires-clause-placed
judge_line-requires-clause-placed c =
    line_placed c.args.index.now.network c.args.ledger.now c.args.verdicts.now c.loop-rest.rest.now c.split_line.result.0.now c.split_line.result.1.now
    c.loop-rest.progress c.loop-rest.index c.loop-rest.invariant.judging c.split_line.ensures.parts

pub judge_line-requires-clause-few : goal.judge_line-requires-clause-few
judge_line-requires-clause-few c = c.loop-rest.invariant.judging.few

pub returns-in_err-progress : goal.returns-in_err-progress
returns-in_err-progress c =
    let e = c.in_err-progress.field-0.0 in
    let is : c.from_residual.result ≡ Err e = search rules in
    let was : c.judge_line.result ≡ Err e = c.in_err-progress.was in
    let t = c.args.index.now.network in
    let x = c.loop-rest.index in
    subst (IsJudgment t c.args.ledger.now c.args.verdicts.now) (sym is)
    (line_refused t c.args.ledger.now c.args.verdicts.now c.loop-rest.rest.now c.split_line.result.0.now c.split_line.result.1.now
    c.loop-rest.progress x c.loop-rest.invariant.judging c.split_line.ensures.parts e
    (subst (λ r. IsReached x.network (facts_of x.history) (accepted_in (item_of c.split_line.result.0.now)) c.loop-rest.progress r) was c.judge_line.ensures.reached))

pub loop-rest-preserved : goal.loop-rest-preserved
loop-rest-preserved c =
    let next = c.in_ok-progress.progress in
    let was : c.judge_line.result ≡ Ok next = c.in_ok-progress.was in
    let x = c.loop-rest.index in
    record {
      judging =
          line_taken c.args.index.now.network c.args.ledger.now c.args.verdicts.now c.loop-rest.rest.now c.split_line.result.0.now c.split_line.result.1.now
          c.loop-rest.progress x c.loop-rest.invariant.judging c.split_line.ensures.parts c.judgments_are_decided.ensures next c.judge_line.new.index
          c.in_ok-progress.ensures.network c.in_ok-progress.ensures.history
          (subst (λ r. IsReached x.network (facts_of x.history) (accepted_in (item_of c.split_line.result.0.now)) c.loop-rest.progress r) was c.judge_line.ensures.reached);
      short = omega (arith, c.loop-rest.invariant.short, c.split_line.ensures.shorter);
    }

pub returns : goal.returns
returns c =
    all_taken c.args.index.now.network c.args.ledger.now c.args.verdicts.now c.loop-rest.rest.now c.loop-rest.progress c.loop-rest.index c.answer.result
    c.loop-rest.invariant.judging (emptied c.loop-rest.rest.now c.is_empty.result c.is_empty.ensures c.loop-rest-test.false) c.answer.ensures
