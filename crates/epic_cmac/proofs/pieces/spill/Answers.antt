use Rattle.std.proofs.Common.{◌≡◌, ◌-◌, ◌/◌, length, take, refl, ap, sym, ◌∙◌, zero-add}
use Rattle.std.specs.Simd.{first_chunks}
use Rattle.epic_aes.specs.Chain.{chain}
use Rattle.epic_cmac.proofs.BlockLemmas.{first_chunks-front}
use Rattle.epic_cmac.proofs.HeldLemmas.{held_spill}
use Rattle.epic_cmac.proofs.pieces.spill.Goals as goal

pub returns : goal.returns
returns c = λ message held.
    let key = c.args.key.now in
    let rest = c.split_at.result.1.now in
    let last = c.split_at-2.result.1.now in
    let more = (length rest - 1) / 16 in
    let cut : c.as_chunks.result.0.now ≡ first_chunks 16 more rest =
    first_chunks-front rest c.split_at-2.result.0.now c.as_chunks.result.0.now more
    c.split_at-2.ensures.front c.split_at-2.ensures.front_len c.as_chunks.ensures.front in
    held_spill key c.args.chain.now c.chain.new.x c.chain-2.new.x c.args.buffer.now c.put.new.buffer c.put-2.new.buffer
    message c.args.piece.now c.split_at.result.0.now rest last c.args.used more
    held c.requires.over c.split_at.ensures.front c.split_at.ensures.back c.split_at.ensures.front_len c.split_at.ensures.back_len
    c.put.ensures c.put.array_long c.chain.ensures refl
    (c.chain-2.ensures ∙ ap (chain key c.chain.new.x) cut)
    c.split_at-2.ensures.back
    (ap (λ n. take n c.put-2.new.buffer) (sym (zero-add (length last))) ∙ c.put-2.ensures)
