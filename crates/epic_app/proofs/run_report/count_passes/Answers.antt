use Rattle.std.proofs.Common.{◌≤◌, length, refl, arith}
use Rattle.epic_app.proofs.PassCounts.{pass_end, pass_long, pass_none, pass_step}
use Rattle.epic_app.proofs.run_report.count_passes.Goals as goal

pub loop-passed-init : goal.loop-passed-init
loop-passed-init c = (refl, refl)

pub count_each-counts-requires : goal.count_each-counts-requires
count_each-counts-requires c =
    let x = c.passed-item.result in
    let long = pass_long c.args.passes.now c.loop-passed.passed-index x x c.as_slice.result.now
    c.loop-passed-test.true c.passed-item.is c.as_slice.ensures.value in
    record { few = omega (arith, long, c.loop-passed.invariant.1, c.requires.few) }

pub loop-passed-preserved : goal.loop-passed-preserved
loop-passed-preserved c =
    let x = c.passed-item.result in
    let long = pass_long c.args.passes.now c.loop-passed.passed-index x x c.as_slice.result.now
    c.loop-passed-test.true c.passed-item.is c.as_slice.ensures.value in (
      pass_step c.args.passes.now c.loop-passed.passed-index x x c.as_slice.result.now
          c.loop-passed-test.true c.passed-item.is c.as_slice.ensures.value
          c.loop-passed.counts c.count_each-counts.result _ c.count_each-counts.ensures.value
          c.loop-passed.invariant.0,
      omega (arith, long, c.loop-passed.invariant.1, c.count_each-counts.ensures.total),
    )

pub returns-clause-value : goal.returns-clause-value
returns-clause-value c =
    let past : length c.args.passes.now ≤ c.loop-passed.passed-index = omega arith in
    pass_end c.args.passes.now c.loop-passed.passed-index c.loop-passed.counts _ past
    c.loop-passed.invariant.0

pub returns-clause-total : goal.returns-clause-total
returns-clause-total c =
    let past : length c.args.passes.now ≤ c.loop-passed.passed-index = omega arith in
    let none = pass_none c.args.passes.now c.loop-passed.passed-index past in
    omega (arith, none, c.loop-passed.invariant.1)
