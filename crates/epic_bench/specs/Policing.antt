-- What a policer answers to packets that its sources offer in turn.
use Rattle.std.specs.Prelude.{ℕ, zero, suc, ◌+◌, ◌/◌, ◌%◌, List, [], map}
use Rattle.std.specs.List.{range_with_len}
use Rattle.epic_cmac.specs.Cmac.{cmac}
use Rattle.epic_num.specs.BigEndian.{u64_bytes}
use Rattle.epic_num.specs.declared.name.AsId.{AsId}
use Rattle.epic_policer.specs.Offers.{Policy, after, answer}
use Rattle.epic_policer.specs.declared.packet.Packet.{Packet}
use Rattle.epic_policer.specs.declared.policed.Policed.{Policed}
use Rattle.epic_policer.specs.declared.policed.Policed.TheVariants.{Pass, Over, Unknown}
use Rattle.epic_bench.specs.declared.way.TheConstants.{NOW}
use Rattle.epic_bench.specs.declared.work.TheConstants.{KEY}

-- the sources, of which there are 4,096
abbrev pub source_of : ℕ → AsId
source_of i = record { 0 = 0x0001_0000_0000_0001 + i }

-- each may have 2^20 bytes passed within a second
unfoldable pub policy : Policy
policy = record { sources = map source_of (range_with_len 0 4096); budget = 1048576; span_us = 1000000 }

-- the packet of a number: four are offered each microsecond, by the sources in turn
unfoldable pub packet_of : ℕ → Packet
packet_of i = record { source = source_of (i % 4096); bytes = 213; moment = NOW + i / 4 }

abbrev pub passed_by : Policed → ℕ
passed_by (Pass used) = 1
passed_by (Over used) = 0
passed_by Unknown = 0

-- the packets that passed, and how many did
pub record Passing : Type 0 where
  pub passed : List Packet
  pub count : ℕ

-- after one more offer
unfoldable pub policed_one : ℕ → Passing → Passing
policed_one i h =
    let given = answer policy h.passed (packet_of i) in
    record { passed = after h.passed (packet_of i) given; count = h.count + passed_by given }

-- after so many offers to a policer that no packet had passed
unfoldable pub policed : ℕ → Passing
policed zero = record { passed = []; count = 0 }
policed (suc n) = policed_one n (policed n)

-- the tag of how many packets passed
unfoldable pub policed_digest : ℕ → List ℕ
policed_digest rounds = cmac KEY (u64_bytes (policed rounds).count)
