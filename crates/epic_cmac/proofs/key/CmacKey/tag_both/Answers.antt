use Rattle.std.proofs.Common.{ap, ◌∙◌}
use Rattle.epic_aes.specs.Chain.{block_sum}
use Rattle.epic_aes.specs.Cipher.{aes}
use Rattle.epic_cmac.proofs.key.CmacKey.tag_both.Goals as goal

pub returns-clause-first : goal.returns-clause-first
returns-clause-first c =
    let key = c.args.self.now in
    c.encrypt_both-2.ensures.first
    ∙ (λ i. aes (c.self.view_is i) (c.block_sum-last_x.result))
    ∙ ap (aes key) (c.block_sum-last_x.ensures ∙ (λ i. block_sum ((c.encrypt_both.ensures.first ∙ (λ j. aes (c.self.view_is j) c.two_blocks-blocks_one.result.0)) i) c.two_blocks-blocks_one.result.1))
    ∙ c.two_blocks-blocks_one.ensures

pub returns-clause-second : goal.returns-clause-second
returns-clause-second c =
    let key = c.args.other.now in
    c.encrypt_both-2.ensures.second
    ∙ (λ i. aes (c.other.view_is i) (c.block_sum-last_y.result))
    ∙ ap (aes key) (c.block_sum-last_y.ensures ∙ (λ i. block_sum ((c.encrypt_both.ensures.second ∙ (λ j. aes (c.other.view_is j) c.two_blocks-blocks_two.result.0)) i) c.two_blocks-blocks_two.result.1))
    ∙ c.two_blocks-blocks_two.ensures
