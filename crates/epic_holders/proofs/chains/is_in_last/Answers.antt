use Rattle.std.proofs.Common.{sym, ◌∙◌, arith}
use Rattle.epic_ledger.specs.Facts.{facts_of}
use Rattle.epic_holders.proofs.Chained.{found_in, passed_in, ended_in, walked_in}
use Rattle.epic_holders.proofs.chains.is_in_last.Goals as goal

pub returns-then-same_name : goal.returns-then-same_name
returns-then-same_name c =
    found_in (facts_of c.args.ledger.now.history).issues c.args.x.now c.args.most c.args.number c.loop-i.i c.loop-i.at c.loop-i.invariant (omega arith)
    (c.in-Some.name, c.in-Some.parent) (sym c.in-Some.is ∙ c.issue.ensures) (sym c.same_name.ensures ∙ c.if-same_name.true)

pub returns-in-None : goal.returns-in-None
returns-in-None c =
    ended_in (facts_of c.args.ledger.now.history).issues c.args.x.now c.args.most c.args.number c.loop-i.i c.loop-i.at c.loop-i.invariant (omega arith)
    (sym c.in-None.is ∙ c.issue.ensures)

pub loop-i-preserved : goal.loop-i-preserved
loop-i-preserved c =
    passed_in (facts_of c.args.ledger.now.history).issues c.args.x.now c.args.most c.args.number c.loop-i.i c.loop-i.at c.loop-i.invariant (omega arith)
    (c.in-Some.name, c.in-Some.parent) (sym c.in-Some.is ∙ c.issue.ensures) (sym c.same_name.ensures ∙ c.if-same_name.false)

pub returns : goal.returns
returns c =
    walked_in (facts_of c.args.ledger.now.history).issues c.args.x.now c.args.most c.args.number c.loop-i.i c.loop-i.at c.loop-i.invariant (omega arith)
