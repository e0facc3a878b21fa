use Rattle.std.proofs.Common.{◌≡◌, ℕ, ◌+◌, ◌<◌, lit<}
use Rattle.epic_aes.specs.Cipher.{round_key, after_rounds}
use Rattle.epic_aes.specs.Keys.{lanes_at, first_key}
use Rattle.epic_aes.specs.Lanes.{state_of, key_of, rounds_of_key}
use Rattle.epic_aes.proofs.RoundLemmas.{key_at, next-round, last-round}
use Rattle.epic_aes.proofs.cipher.later_rounds.Goals as goal

pub returns : goal.returns
returns c block before =
    let keys = c.args.keys.now in
    let key = first_key keys in
    let held : (i : ℕ) → i < 10 → key_of (rounds_of_key (1 + i)) (lanes_at keys (1 + i)) ≡ round_key key (1 + i) = λ i below. key_at keys i c.requires below in
    let after6 : state_of 6 c.round-x.result ≡ after_rounds key block 6 =
    next-round key block 5 _ _ _ before (held 5 (lit< tt)) c.round-x.ensures in
    let after7 : state_of 7 c.round-x-2.result ≡ after_rounds key block 7 =
    next-round key block 6 _ _ _ after6 (held 6 (lit< tt)) c.round-x-2.ensures in
    let after8 : state_of 8 c.round-x-3.result ≡ after_rounds key block 8 =
    next-round key block 7 _ _ _ after7 (held 7 (lit< tt)) c.round-x-3.ensures in
    let after9 : state_of 9 c.round-x-4.result ≡ after_rounds key block 9 =
    next-round key block 8 _ _ _ after8 (held 8 (lit< tt)) c.round-x-4.ensures in
    last-round key block _ _ _ after9 (held 9 (lit< tt)) c.last_round.ensures
