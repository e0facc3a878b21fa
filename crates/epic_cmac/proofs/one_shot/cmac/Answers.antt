use Rattle.std.proofs.Common.{◌≤◌, length, ap, ◌∙◌, arith, length-drop}
use Rattle.epic_aes.specs.Chain.{block_sum, chain}
use Rattle.epic_aes.specs.Cipher.{aes}
use Rattle.epic_cmac.specs.Cmac.{zero_block, last_block, blocks}
use Rattle.epic_cmac.proofs.BlockLemmas.{tag-rest, tag-two}
use Rattle.epic_cmac.proofs.one_shot.cmac.Goals as goal

pub returns-then-rest-le16 : goal.returns-then-rest-le16
returns-then-rest-le16 c =
    let key = c.args.key.now in
    let message = c.args.message.now in
    let more = c.if-message-le16.false in
    let short = c.if-rest-le16.true in
    let left = ap length c.split_at.ensures.back in
    let dropped = length-drop 16 message in
    let most : length message ≤ 32 = omega arith in
    c.end.ensures
    ∙ (λ i. aes (c.new_beside-ready.ensures.key i) (block_sum c.new_beside-ready.new.block (last_block (c.new_beside-ready.ensures.key i) c.split_at.result.1.now)))
    ∙ tag-two key message _ _ (omega (arith, more)) most
    (c.new_beside-ready.ensures.block ∙ ap (aes key) (c.first_sum-x.ensures ∙ ap (block_sum zero_block) c.split_at.ensures.front))
    c.split_at.ensures.back

pub returns : goal.returns
returns c =
    let key = c.args.key.now in
    c.tag_from.ensures
    ∙ (λ i. chain (c.new_beside-ready.ensures.key i) c.new_beside-ready.new.block (blocks (c.new_beside-ready.ensures.key i) c.split_at.result.1.now))
    ∙ tag-rest key c.args.message.now _ _ (omega (arith, c.if-message-le16.false))
    (c.new_beside-ready.ensures.block ∙ ap (aes key) (c.first_sum-x.ensures ∙ ap (block_sum zero_block) c.split_at.ensures.front))
    c.split_at.ensures.back
