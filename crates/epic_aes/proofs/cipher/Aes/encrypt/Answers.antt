use Rattle.std.proofs.Common.{◌≡◌, ◌∙◌}
use Rattle.epic_aes.specs.Cipher.{add_round_key, aes}
use Rattle.epic_aes.specs.Keys.{first_key}
use Rattle.epic_aes.specs.Lanes.{state_of}
use Rattle.epic_aes.proofs.ChainLemmas.{sum_turned}
use Rattle.epic_aes.proofs.cipher.Aes.encrypt.Goals as goal

pub returns : goal.returns
returns c =
    let key = first_key c.self.inside.keys in
    let block = c.args.block.now in
    let added : state_of 0 c.sum-x.result ≡ add_round_key block key =
    c.sum-x.ensures ∙ (λ i. add_round_key key (c.enter.ensures.value i)) ∙ sum_turned key block in
    c.leave.ensures
    ∙ c.later_rounds-x.ensures block (c.early_rounds-x.ensures block added)
    ∙ (λ i. aes (c.self.view_is i) block)
