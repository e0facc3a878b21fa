use Rattle.std.proofs.Common.{◌≡◌, ◌++◌, take, ◌∙◌}
use Rattle.std.specs.Int.{w64, to_be_bytes}
use Rattle.epic_cmac.specs.Cmac.{cmac}
use Rattle.epic_gen.specs.Names.{generator_key, payload_of}
use Rattle.epic_gen.proofs.keys.payload_of.Goals as goal

pub returns : goal.returns
unfolding payload_of
returns c =
    let tag : c.seed_tag-tag.result ≡ cmac generator_key (to_be_bytes w64 c.args.seed ++ to_be_bytes w64 c.args.number) =
    c.seed_tag-tag.ensures ∙ (λ k. cmac generator_key (to_be_bytes w64 c.args.seed ++ c.to_be_bytes.ensures k)) in
    c.in_ok-extend_from_slice.ensures.items ∙ (λ k. c.new-payload.ensures.items k ++ take 8 (tag k))
