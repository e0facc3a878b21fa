use Rattle.std.proofs.Common.{refl, ap, ◌∙◌}
use Rattle.epic_aes.specs.Chain.{block_sum}
use Rattle.epic_aes.specs.Cipher.{aes}
use Rattle.epic_cmac.specs.Cmac.{zero_block}
use Rattle.epic_cmac.proofs.BlockLemmas.{tag-two}
use Rattle.epic_cmac.proofs.key.CmacKey.two_blocks.Goals as goal

pub returns : goal.returns
returns c =
    let key = c.args.self.now in
    (λ i. aes key (block_sum (aes key ((c.first_sum.ensures ∙ ap (block_sum zero_block) c.split_at.ensures.front) i)) (c.last_block.ensures i)))
    ∙ tag-two key c.args.message.now _ _ c.requires.more c.requires.most refl c.split_at.ensures.back
