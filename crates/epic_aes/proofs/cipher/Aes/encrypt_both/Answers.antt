use Rattle.std.proofs.Common.{◌≡◌, ◌∙◌, lit<}
use Rattle.epic_aes.specs.Cipher.{add_round_key, aes}
use Rattle.epic_aes.specs.Keys.{first_key}
use Rattle.epic_aes.specs.Lanes.{state_of}
use Rattle.epic_aes.proofs.ChainLemmas.{sum_turned}
use Rattle.epic_aes.proofs.RoundLemmas.{key_at, first-sum, last-round}
use Rattle.epic_aes.proofs.cipher.Aes.encrypt_both.Goals as goal

pub returns-clause-first : goal.returns-clause-first
returns-clause-first c =
    let keys = c.self.inside.keys in
    let key = first_key keys in
    let block = c.args.x.now in
    let added : state_of 0 c.sum-x0.result ≡ add_round_key block key =
    c.sum-x0.ensures ∙ (λ i. add_round_key key (c.enter.ensures.value i)) ∙ sum_turned key block in
    let after0 = first-sum key block _ added in
    let after1 = c.round_of_both-both1.ensures.first block after0 in
    let after2 = c.round_of_both-both2.ensures.first block after1 in
    let after3 = c.round_of_both-both3.ensures.first block after2 in
    let after4 = c.round_of_both-both4.ensures.first block after3 in
    let after5 = c.round_of_both-both5.ensures.first block after4 in
    let after6 = c.round_of_both-both6.ensures.first block after5 in
    let after7 = c.round_of_both-both7.ensures.first block after6 in
    let after8 = c.round_of_both-both8.ensures.first block after7 in
    let after9 = c.round_of_both-both9.ensures.first block after8 in
    c.leave.ensures
    ∙ last-round key block _ _ _ after9 (key_at keys 9 c.self.invariant (lit< tt)) c.last_round-x10.ensures
    ∙ (λ i. aes (c.self.view_is i) block)

pub returns-clause-second : goal.returns-clause-second
returns-clause-second c =
    let keys = c.other.inside.keys in
    let key = first_key keys in
    let block = c.args.y.now in
    let added : state_of 0 c.sum-y0.result ≡ add_round_key block key =
    c.sum-y0.ensures ∙ (λ i. add_round_key key (c.enter-2.ensures.value i)) ∙ sum_turned key block in
    let after0 = first-sum key block _ added in
    let after1 = c.round_of_both-both1.ensures.second block after0 in
    let after2 = c.round_of_both-both2.ensures.second block after1 in
    let after3 = c.round_of_both-both3.ensures.second block after2 in
    let after4 = c.round_of_both-both4.ensures.second block after3 in
    let after5 = c.round_of_both-both5.ensures.second block after4 in
    let after6 = c.round_of_both-both6.ensures.second block after5 in
    let after7 = c.round_of_both-both7.ensures.second block after6 in
    let after8 = c.round_of_both-both8.ensures.second block after7 in
    let after9 = c.round_of_both-both9.ensures.second block after8 in
    c.leave-2.ensures
    ∙ last-round key block _ _ _ after9 (key_at keys 9 c.other.invariant (lit< tt)) c.last_round-y10.ensures
    ∙ (λ i. aes (c.other.view_is i) block)
