use Rattle.std.proofs.Common.{◌≡◌, ◌/◌, ap, ◌∙◌}
use Rattle.std.specs.Simd.{first_chunks}
use Rattle.epic_aes.specs.Chain.{block_sum, chain}
use Rattle.epic_aes.specs.Cipher.{aes}
use Rattle.epic_cmac.specs.Cmac.{count_before_last}
use Rattle.epic_cmac.proofs.BlockLemmas.{first_chunks-front, chain-blocks}
use Rattle.epic_cmac.proofs.key.CmacKey.tag_from.Goals as goal

pub returns : goal.returns
returns c =
    let key = c.args.self.now in
    let message = c.args.message.now in
    let count = c.saturating_sub.result / 16 in
    let before : count ≡ count_before_last message = ap (λ n. n / 16) c.saturating_sub.ensures in
    let cut : c.as_chunks.result.0.now ≡ first_chunks 16 count message =
    first_chunks-front message c.split_at.result.0.now c.as_chunks.result.0.now count
    c.split_at.ensures.front c.split_at.ensures.front_len c.as_chunks.ensures.front in
    let state : c.chain.new.x ≡ chain key c.args.x (first_chunks 16 count message) =
    c.chain.ensures ∙ ap (chain key c.args.x) cut in
    c.close.ensures
    ∙ ap (λ last. aes key (block_sum c.chain.new.x last)) c.last_block-last.ensures
    ∙ chain-blocks key message c.args.x _ _ count before state c.split_at.ensures.back
