use Rattle.std.proofs.Common.{arith}
use Rattle.epic_app.proofs.RunLemmas.{count_step, count_end}
use Rattle.epic_app.proofs.run_report.count_each.Goals as goal

pub loop-verdict-preserved : goal.loop-verdict-preserved
loop-verdict-preserved c =
    (count_step _ c.args.verdicts.now c.loop-verdict.verdict-index _ _ _ (omega arith) c.counted-counts.ensures.value c.loop-verdict.invariant.0, omega (arith, c.counted-counts.ensures.one))

pub returns-clause-value : goal.returns-clause-value
returns-clause-value c = count_end _ c.args.verdicts.now c.loop-verdict.verdict-index _ (omega arith) c.loop-verdict.invariant.0
