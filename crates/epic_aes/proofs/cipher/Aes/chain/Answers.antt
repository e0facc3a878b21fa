use Rattle.std.proofs.Common.{◌≡◌, [], take, slice_index_or, ap, sym, ◌∙◌, take_all}
use Rattle.epic_aes.specs.Cipher.{add_round_key, aes}
use Rattle.epic_aes.specs.Chain.{block_sum, chain}
use Rattle.epic_aes.specs.Keys.{first_key}
use Rattle.epic_aes.specs.Lanes.{state_of}
use Rattle.epic_aes.proofs.ChainLemmas.{chain_none, chain_more, sum_order}
use Rattle.epic_aes.proofs.cipher.Aes.chain.Goals as goal

pub loop-i-init : goal.loop-i-init
loop-i-init c = (c.enter-state.ensures.value ∙ sym (chain_none c.args.self.now c.args.x.now c.args.blocks.now), c.first_sum-ahead.ensures)

pub loop-i-preserved : goal.loop-i-preserved
unfolding block_sum
loop-i-preserved c =
    let key = first_key c.self.inside.keys in
    let before = chain c.args.self.now c.args.x.now (take c.loop-i.i c.args.blocks.now) in
    let block = slice_index_or c.args.blocks.now c.loop-i.i [] in
    let added : state_of 0 c.sum-sum.result ≡ add_round_key (block_sum before block) key =
    c.sum-sum.ensures
    ∙ (λ j. add_round_key (c.loop-i.invariant.0 j) (c.loop-i.invariant.1 c.loop-i-test.true j))
    ∙ sum_order before key block in
    let more = chain_more c.args.self.now c.args.x.now c.args.blocks.now c.loop-i.i c.loop-i-test.true in (
      c.later_rounds-done.ensures (block_sum before block) (c.early_rounds-half.ensures (block_sum before block) added) ∙ (λ j. aes (c.self.view_is j) (block_sum before block)) ∙ sym more,
      c.first_sum-next.ensures,
    )

pub returns : goal.returns
returns c =
    let whole : take c.loop-i.i c.args.blocks.now ≡ c.args.blocks.now = take_all c.loop-i.i c.args.blocks.now c.loop-i-test.false in
    c.leave.ensures ∙ c.loop-i.invariant.0 ∙ ap (chain c.args.self.now c.args.x.now) whole
