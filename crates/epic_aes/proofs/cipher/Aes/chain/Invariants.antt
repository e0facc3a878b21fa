use Rattle.std.proofs.Common.{◌≡◌, ◌<◌, [], length, take, slice_index_or}
use Rattle.epic_aes.specs.Chain.{chain}
use Rattle.epic_aes.specs.Cipher.{add_round_key}
use Rattle.epic_aes.specs.Lanes.{state_of}
use Rattle.epic_aes.proofs.cipher.Aes.chain.Given as goal

abbrev pub invariant-loop-i : goal.invariant-loop-i
invariant-loop-i l =
    (state_of 0 l.state ≡ chain l.self l.initial.x (take l.i l.blocks))
    × (l.i < length l.blocks → state_of 0 l.ahead ≡ add_round_key (state_of 0 l.key) (slice_index_or l.blocks l.i []))
