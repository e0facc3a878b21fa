use Rattle.std.proofs.Common.{ℕ, List, ◌+◌, ◌-◌, ◌∙◌}
use Rattle.std.specs.Fn.{iterate}
use Rattle.epic_aes.specs.Chain.{chain}
use Rattle.epic_bench.specs.declared.work.TheConstants.{KEY}
use Rattle.epic_bench.proofs.Iterated.{iterate_more, iterate_all}
use Rattle.epic_bench.proofs.work.chain_rounds.Goals as goal

pub loop-preserved : goal.loop-preserved
loop-preserved c =
    let step : List ℕ → List ℕ = λ x. chain KEY x c.args.blocks.now in
    (λ i. iterate step (c.args.rounds - (c.loop.counter + 1)) (c.chain.ensures i))
    ∙ (λ i. iterate step (c.args.rounds - (c.loop.counter + 1)) (chain (c.new-aes.ensures i) c.loop.x c.args.blocks.now))
    ∙ iterate_more step c.args.rounds c.loop.counter c.loop.x _ c.loop-test.true c.loop.invariant

pub returns : goal.returns
returns c =
    iterate_all (λ x. chain KEY x c.args.blocks.now) c.args.rounds c.loop.counter c.loop.x _ c.loop-test.false c.loop.invariant
