use Rattle.std.proofs.Common.{◌≡◌, ℕ, ◌+◌, ◌<◌, lit<}
use Rattle.epic_aes.specs.Cipher.{round_key, after_rounds}
use Rattle.epic_aes.specs.Keys.{lanes_at, first_key}
use Rattle.epic_aes.specs.Lanes.{state_of, key_of, rounds_of_key}
use Rattle.epic_aes.proofs.RoundLemmas.{key_at, first-sum, next-round}
use Rattle.epic_aes.proofs.cipher.early_rounds.Goals as goal

pub returns : goal.returns
returns c block before =
    let keys = c.args.keys.now in
    let key = first_key keys in
    let held : (i : ℕ) → i < 10 → key_of (rounds_of_key (1 + i)) (lanes_at keys (1 + i)) ≡ round_key key (1 + i) = λ i below. key_at keys i c.requires below in
    let after0 : state_of 0 c.args.x ≡ after_rounds key block 0 = first-sum key block _ before in
    let after1 : state_of 1 c.round-x.result ≡ after_rounds key block 1 =
    next-round key block 0 _ _ _ after0 (held 0 (lit< tt)) c.round-x.ensures in
    let after2 : state_of 2 c.round-x-2.result ≡ after_rounds key block 2 =
    next-round key block 1 _ _ _ after1 (held 1 (lit< tt)) c.round-x-2.ensures in
    let after3 : state_of 3 c.round-x-3.result ≡ after_rounds key block 3 =
    next-round key block 2 _ _ _ after2 (held 2 (lit< tt)) c.round-x-3.ensures in
    let after4 : state_of 4 c.round-x-4.result ≡ after_rounds key block 4 =
    next-round key block 3 _ _ _ after3 (held 3 (lit< tt)) c.round-x-4.ensures in
    next-round key block 4 _ _ _ after4 (held 4 (lit< tt)) c.round.ensures
