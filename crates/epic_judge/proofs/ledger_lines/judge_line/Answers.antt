use Rattle.std.proofs.Common.{Ok, Err, ◌≡◌, sym, subst}
use Rattle.std.specs.Prelude.{OnOk}
use Rattle.epic_ledger.specs.Facts.{facts_of}
use Rattle.epic_record.specs.LedgerLine.{item_of}
use Rattle.epic_judge.specs.Reaching.{IsPlacedLine, IsReached, accepted_in, line_more}
use Rattle.epic_judge.proofs.ledger_lines.judge_line.Goals as goal

pub judge_item-requires-clause-placed : goal.judge_item-requires-clause-placed
judge_item-requires-clause-placed c =
    let x = c.args.index.now in
    let is : item_of c.args.line.now ≡ Ok c.in-Ok.item = c.in-Ok.ensures in
    subst (IsPlacedLine x.network x.history) is c.requires.placed

pub unreachable-requires : goal.unreachable-requires
unreachable-requires c =
    let x = c.args.index.now in
    let is : item_of c.args.line.now ≡ Err c.in-Err-Refused.field-0-0 = rw (c.in-Err-Refused.field-0-is) at c.in-Err-Refused.ensures in
    subst (IsPlacedLine x.network x.history) is c.requires.placed

pub returns-in-Ok-clause-history : goal.returns-in-Ok-clause-history
returns-in-Ok-clause-history c =
    let is : item_of c.args.line.now ≡ Ok c.in-Ok.item = c.in-Ok.ensures in
    subst (λ r. OnOk c.judge_item.result (c.judge_item.new.index.history ≡ line_more c.args.index.now.history r)) (sym is) c.judge_item.ensures.history

pub returns-in-Ok-clause-reached : goal.returns-in-Ok-clause-reached
returns-in-Ok-clause-reached c =
    let x = c.args.index.now in
    let is : item_of c.args.line.now ≡ Ok c.in-Ok.item = c.in-Ok.ensures in
    subst (λ r. IsReached x.network (facts_of x.history) (accepted_in r) c.args.progress c.judge_item.result) (sym is) c.judge_item.ensures.reached
