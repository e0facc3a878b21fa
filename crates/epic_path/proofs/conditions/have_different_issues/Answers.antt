use Rattle.std.proofs.Common.{sym, ◌∙◌}
use Rattle.epic_path.proofs.ConditionLaws.{distinct_step, distinct_stop, distinct_end}
use Rattle.epic_path.proofs.conditions.have_different_issues.Goals as goal

pub returns-then-has_issue : goal.returns-then-has_issue
returns-then-has_issue c =
    distinct_stop c.args.segments.now c.loop-index.index c.last_issue.result c.index-segments-index.result _ c.loop-index-test.true c.index-segments-index.is c.last_issue.ensures (sym c.has_issue.ensures ∙ c.if-has_issue.true) c.loop-index.invariant

pub loop-index-preserved : goal.loop-index-preserved
loop-index-preserved c =
    distinct_step c.args.segments.now c.loop-index.index c.last_issue.result c.index-segments-index.result _ c.loop-index-test.true c.index-segments-index.is c.last_issue.ensures (sym c.has_issue.ensures ∙ c.if-has_issue.false) c.loop-index.invariant

pub returns : goal.returns
returns c = distinct_end c.args.segments.now c.loop-index.index c.loop-index-test.false c.loop-index.invariant
