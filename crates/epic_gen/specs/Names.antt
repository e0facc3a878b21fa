-- The ASes of a generated topology, and what is made of the seed.
use Rattle.std.specs.Prelude.{ℕ, ◌+◌, List, [], ◌∷◌, ◌++◌, take}
use Rattle.std.specs.Int.{w64, to_be_bytes}
use Rattle.std.specs.List.{range_with_len}
use Rattle.epic_cmac.specs.Cmac.{cmac}
use Rattle.epic_num.specs.declared.name.AsId.{AsId}

-- ---- its ASes, all of isolation domain 1

-- the AS 1-ff00:0:N
abbrev pub asn : ℕ → AsId
asn number = record { 0 = 0x0001_ff00_0000_0000 + number }

-- two core ASes
abbrev pub first_core : AsId
first_core = asn 0x110

abbrev pub second_core : AsId
second_core = asn 0x120

-- the child of the first, and the child of that, from which packets are sent
abbrev pub first_child : AsId
first_child = asn 0x111

abbrev pub source : AsId
source = asn 0x112

-- the child of the second, and the child of that, to which they are sent
abbrev pub second_child : AsId
second_child = asn 0x121

abbrev pub destination : AsId
destination = asn 0x122

-- ---- what is made of the seed

-- the key under which it is made: the bytes from 0 to 15
abbrev pub generator_key : List ℕ
generator_key = range_with_len 0 16

-- the master key of the AS at a place of the topology, from 0
unfoldable pub master_of : ℕ → ℕ → List ℕ
master_of seed place = cmac generator_key (to_be_bytes w64 seed ++ place ∷ [])

-- what the packet with a number, from 0, carries
unfoldable pub payload_of : ℕ → ℕ → List ℕ
payload_of seed number = take 8 (cmac generator_key (to_be_bytes w64 seed ++ to_be_bytes w64 number))
