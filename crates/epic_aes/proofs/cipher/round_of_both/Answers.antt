use Rattle.epic_aes.specs.Keys.{first_key}
use Rattle.epic_aes.proofs.RoundLemmas.{key_after, round-after}
use Rattle.epic_aes.proofs.cipher.round_of_both.Goals as goal

pub returns-clause-first : goal.returns-clause-first
returns-clause-first c block before =
    let keys = c.args.keys.now in
    round-after (first_key keys) block c.args.n _ _ _ before (key_after keys c.args.n c.requires.keys c.requires.few) c.round.ensures

pub returns-clause-second : goal.returns-clause-second
returns-clause-second c block before =
    let keys = c.args.others.now in
    round-after (first_key keys) block c.args.n _ _ _ before (key_after keys c.args.n c.requires.others c.requires.few) c.round-2.ensures
