-- The script that is generated from a seed and a number of packets.
use Rattle.std.specs.Prelude.{ℕ, ◌+◌, ◌*◌, ◌%◌, ◌==◌, if◌then◌else◌, List, [], ◌∷◌, ◌++◌, flat_map}
use Rattle.std.specs.List.{range_with_len}
use Rattle.epic_num.specs.declared.command.Command.{Command}
use Rattle.epic_num.specs.declared.command.Command.TheVariants.{At, Originate, Extend, Fetch, Send, Carry}
use Rattle.epic_num.specs.declared.hop.Level.{Level}
use Rattle.epic_num.specs.declared.hop.Level.TheVariants.{L0, L1, L2, L3}
use Rattle.epic_gen.specs.Names.{destination, first_child, first_core, payload_of, second_child, second_core, source}

-- its first moment, in microseconds, and the epoch of keys in which that lies
abbrev pub first_moment : ℕ
first_moment = 1700000000000000

abbrev pub first_epoch : ℕ
first_epoch = 19675

-- three chains of beacons, from a core AS down to the source, to the other core AS, and from there
-- down to the destination; then the source gets its keys of the other ASes
unfoldable pub head_commands : List Command
head_commands =
    At first_moment
    ∷ Originate first_core 2 63 ∷ Extend 1 2 63 ∷ Extend 2 0 63
    ∷ Originate first_core 1 63 ∷ Extend 4 0 63
    ∷ Originate second_core 2 63 ∷ Extend 6 2 63 ∷ Extend 7 0 63
    ∷ Fetch source first_child first_epoch ∷ Fetch source first_core first_epoch
    ∷ Fetch source second_core first_epoch ∷ Fetch source second_child first_epoch
    ∷ Fetch source destination first_epoch ∷ []

-- packets take the four levels in turn
abbrev pub level_at : ℕ → Level
level_at number =
    if number % 4 == 0 then L0 else if number % 4 == 1 then L1 else if number % 4 == 2 then L2 else L3

-- The packet with a number, from 0, is sent a millisecond after the one before it, from host 1 of
-- the source to host 2 of the destination, and carried. Each packet has seven emissions.
unfoldable pub packet_commands : ℕ → ℕ → List Command
packet_commands seed number =
    At (first_moment + 1000 * number)
    ∷ Send 1 (level_at number) (record { asn = source; host = 1 }) (record { asn = destination; host = 2 })
    (record { items = 3 ∷ 5 ∷ 8 ∷ [] }) (payload_of seed number)
    ∷ Carry (7 * number + 1) ∷ []

-- the whole script
unfoldable pub generated : ℕ → ℕ → List Command
generated seed packets = head_commands ++ flat_map (packet_commands seed) (range_with_len 0 packets)
