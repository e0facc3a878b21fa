use Rattle.std.proofs.Common.{◌≡◌, ◌∙◌}
use Rattle.std.specs.Fn.{iterate}
use Rattle.std.specs.Simd.{first_chunks}
use Rattle.epic_aes.specs.Chain.{chain}
use Rattle.epic_bench.specs.declared.work.TheConstants.{KEY}
use Rattle.epic_bench.specs.Works.{chained, message}
use Rattle.epic_bench.proofs.Numbers.{all_chunks}
use Rattle.epic_bench.proofs.work.aes_value.Goals as goal

pub returns : goal.returns
unfolding chained
returns c =
    let cut : c.as_chunks.result.0.now ≡ first_chunks 16 64 (message c.args.rounds 1024) =
    all_chunks c.args.rounds c.fill.new.bytes c.as_chunks.result.0.now c.fill.ensures c.as_chunks.ensures.front in
    c.chain_rounds.ensures ∙ (λ i. iterate (λ x. chain KEY x (cut i)) c.args.rounds KEY)
