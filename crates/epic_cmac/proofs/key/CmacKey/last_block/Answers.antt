use Rattle.std.proofs.Common.{◌≡◌, ap, length, arith, eq-eqb, ◌∙◌, take_all}
use Rattle.epic_aes.specs.Chain.{block_sum}
use Rattle.epic_cmac.specs.Cmac.{first_subkey, last_block}
use Rattle.epic_cmac.proofs.key.CmacKey.last_block.Goals as goal

pub returns-in-Some : goal.returns-in-Some
unfolding last_block
returns-in-Some c =
    let held = c.self.inside in
    let long : length c.args.rest.now ≡ 16 = omega (arith, c.in-Some.ensures.cases, c.requires) in
    let all = take_all 16 c.args.rest.now c.requires in
    let whole = c.in-Some.ensures.cases in
    rw (eq-eqb (length c.args.rest.now) 16 long) (c.block_sum.ensures ∙ (λ i. block_sum ((whole.same ∙ all) i) ((c.self.invariant.0 ∙ ap first_subkey c.self.view_is) i)))
