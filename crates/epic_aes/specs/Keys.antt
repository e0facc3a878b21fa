-- What the vectors of a key schedule stand for.
use Rattle.std.specs.Prelude.{◌≡◌, ℕ, List, [], map, slice_index_or}
use Rattle.std.specs.List.{range_with_len}
use Rattle.epic_aes.specs.Cipher.{round_key}
use Rattle.epic_aes.specs.Lanes.{state_of, key_of, rounds_of_key}
use Rattle.epic_aes.specs.declared.cipher.RoundKey.{RoundKey}

-- the lanes of round key r
abbrev pub lanes_at : List RoundKey → ℕ → List ℕ
lanes_at keys r = (slice_index_or keys r (record { lanes = [] })).lanes

-- the key that they begin with
abbrev pub first_key : List RoundKey → List ℕ
first_key keys = state_of 0 (lanes_at keys 0)

-- the vectors after the first hold the round keys 1 to 10
abbrev pub HasRoundKeys : List RoundKey → Type 0
HasRoundKeys keys =
    map (λ r. key_of (rounds_of_key r) (lanes_at keys r)) (range_with_len 1 10) ≡ map (round_key (first_key keys)) (range_with_len 1 10)
