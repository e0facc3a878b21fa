-- What each work computes, and in what its operations are counted.
use Rattle.std.specs.Prelude.{◌≡◌, ℕ, ◌+◌, ◌*◌, ◌%◌, List, map, codes}
use Rattle.std.specs.Fn.{iterate}
use Rattle.std.specs.List.{range_with_len}
use Rattle.std.specs.Simd.{first_chunks}
use Rattle.epic_aes.specs.Chain.{chain}
use Rattle.epic_cmac.specs.Cmac.{cmac}
use Rattle.epic_bench.specs.declared.work.TheConstants.{KEY}
use Rattle.epic_bench.specs.declared.work.Load.TheVariants.{One, Hundred, Thousands}
use Rattle.epic_bench.specs.declared.work.Work.{Work}
use Rattle.epic_bench.specs.declared.work.Work.TheVariants.{Aes, Cmac, Short, Routed, Arrived, Sends, Window, Policing}
use Rattle.epic_num.specs.declared.hop.Level.TheVariants.{L0, L1, L2, L3}
use Rattle.epic_bench.specs.Arrived.{IsArrivedDigest}
use Rattle.epic_bench.specs.Offers.{offers_digest}
use Rattle.epic_bench.specs.Policing.{policed_digest}
use Rattle.epic_bench.specs.Routed.{IsRoutedDigest}
use Rattle.epic_bench.specs.Sends.{IsSentDigest}

-- a message of so many bytes, which count up from the seed modulo 256
unfoldable pub message : ℕ → ℕ → List ℕ
message seed size = map (λ i. (seed + i) % 256) (range_with_len 0 size)

-- A round goes on from what the one before gave, so that every round shows in the last: 64 blocks in a chain under the one
-- key. The message differs with the number of rounds, so that no compiler can work ahead.
unfoldable pub chained : ℕ → List ℕ
chained rounds = iterate (λ x. chain KEY x (first_chunks 16 64 (message rounds 1024))) rounds KEY

-- likewise the tag of a message of so many bytes, under the tag before as its key
unfoldable pub tagged : ℕ → ℕ → List ℕ
tagged size rounds = iterate (λ key. cmac key (message rounds size)) rounds KEY

-- 16 bytes that tell what a work gave in so many rounds
abbrev pub IsDigest : Work → ℕ → List ℕ → Type 0
IsDigest Aes rounds digest = digest ≡ chained rounds
IsDigest Cmac rounds digest = digest ≡ tagged 1500 rounds
IsDigest Short rounds digest = digest ≡ tagged 27 rounds
IsDigest (Routed level) rounds digest = IsRoutedDigest rounds digest
IsDigest Arrived rounds digest = IsArrivedDigest rounds digest
IsDigest Sends rounds digest = IsSentDigest rounds digest
IsDigest (Window load) rounds digest = digest ≡ offers_digest load rounds
IsDigest Policing rounds digest = digest ≡ policed_digest rounds

-- how many operations a round has
abbrev pub operations_a_round : Work → ℕ
operations_a_round Aes = 64
operations_a_round Cmac = 1
operations_a_round Short = 1
operations_a_round (Routed level) = 1
operations_a_round Arrived = 1
operations_a_round Sends = 1
operations_a_round (Window load) = 1
operations_a_round Policing = 1

abbrev pub operations : Work → ℕ → ℕ
operations work rounds = operations_a_round work * rounds

-- a work's word
abbrev pub name_of : Work → List ℕ
name_of Aes = codes "aes"
name_of Cmac = codes "cmac"
name_of Short = codes "short"
name_of (Routed L0) = codes "turn0"
name_of (Routed L1) = codes "turn1"
name_of (Routed L2) = codes "turn2"
name_of (Routed L3) = codes "turn3"
name_of Arrived = codes "arrive3"
name_of Sends = codes "send3"
name_of (Window One) = codes "window-1"
name_of (Window Hundred) = codes "window-100"
name_of (Window Thousands) = codes "window-4096"
name_of Policing = codes "police"

-- what its operations are called
abbrev pub unit_of : Work → List ℕ
unit_of Aes = codes "blocks"
unit_of Cmac = codes "messages"
unit_of Short = codes "messages"
unit_of (Routed level) = codes "turns"
unit_of Arrived = codes "arrivals"
unit_of Sends = codes "sends"
unit_of (Window load) = codes "offers"
unit_of Policing = codes "offers"
