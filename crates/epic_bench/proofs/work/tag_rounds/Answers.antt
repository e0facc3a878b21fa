use Rattle.std.proofs.Common.{ℕ, List, ◌+◌, ◌-◌, ◌∙◌}
use Rattle.std.specs.Fn.{iterate}
use Rattle.epic_cmac.specs.Cmac.{cmac}
use Rattle.epic_bench.proofs.Iterated.{iterate_more, iterate_all}
use Rattle.epic_bench.proofs.work.tag_rounds.Goals as goal

pub loop-preserved : goal.loop-preserved
loop-preserved c =
    let step : List ℕ → List ℕ = λ key. cmac key c.args.message.now in
    (λ i. iterate step (c.args.rounds - (c.loop.counter + 1)) (c.cmac-tag.ensures i))
    ∙ iterate_more step c.args.rounds c.loop.counter c.loop.key _ c.loop-test.true c.loop.invariant

pub returns : goal.returns
returns c =
    iterate_all (λ key. cmac key c.args.message.now) c.args.rounds c.loop.counter c.loop.key _ c.loop-test.false c.loop.invariant
