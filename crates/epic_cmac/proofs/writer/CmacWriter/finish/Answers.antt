use Rattle.std.proofs.Common.{refl, take, ◌∙◌}
use Rattle.epic_cmac.specs.Cmac.{count_before_last, cmac}
use Rattle.epic_cmac.proofs.BlockLemmas.{tag-cmac}
use Rattle.epic_cmac.proofs.writer.CmacWriter.finish.Goals as goal

pub returns : goal.returns
returns c =
    let held = c.self.inside in
    c.end.ensures
    ∙ tag-cmac held.key.now held.message.bytes held.chain (take held.used held.buffer) (count_before_last held.message.bytes)
    refl c.self.invariant.taken c.self.invariant.left
    ∙ (λ i. cmac (c.self.view_is i).key (c.self.view_is i).message)
