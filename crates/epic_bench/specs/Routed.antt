-- What becomes of packets that come to a router one after the other.
use Rattle.std.specs.Prelude.{◌≡◌, ℕ, zero, suc, ◌+◌, ◌&&◌, if◌then◌else◌, List, ◌∷◌, Ok, slice_index_or}
use Rattle.epic_cmac.specs.Cmac.{cmac}
use Rattle.epic_num.specs.BigEndian.{u64_bytes}
use Rattle.epic_num.specs.Levels.{is_timed}
use Rattle.epic_num.specs.declared.turn.Turn.{Turn}
use Rattle.epic_num.specs.declared.turn.Turn.TheVariants.{Forward, Deliver, Refused}
use Rattle.epic_layout.specs.Layout.{parse}
use Rattle.epic_topo.specs.Network.{Network}
use Rattle.epic_topo.specs.Reading.{topology}
use Rattle.epic_window.specs.Entries.{Entries, told_of}
use Rattle.epic_router.specs.Candidates.{candidates_of}
use Rattle.epic_router.specs.Handling.{turn_of}
use Rattle.epic_router.specs.Remembering.{is_accepted, key_at}
use Rattle.epic_bench.specs.declared.routed.TheConstants.{IFACE, NO_PACKET, ROUTER}
use Rattle.epic_bench.specs.declared.way.TheConstants.{CHAIN, NOW}
use Rattle.epic_bench.specs.declared.work.TheConstants.{KEY}

-- what the router remembers, and how many packets it accepted
pub record Met : Type 0 where
  pub entries : Entries
  pub accepted : ℕ

abbrev pub accepted_by : Turn → ℕ
accepted_by (Forward out hops generations) = 1
accepted_by (Deliver host hops generations) = 1
accepted_by (Refused check hop) = 0

-- after one more packet, in the turn of a number
unfoldable pub met_one : Network → ℕ → List ℕ → Met → Met
met_one t turn bytes m =
    let p = parse bytes in
    let key = key_at p p.current in
    let answer = turn_of t ROUTER (candidates_of 0) IFACE NOW (told_of t.profile m.entries NOW key) bytes in
    record {
      entries = if is_accepted answer && is_timed p.first then (key, turn) ∷ m.entries else m.entries;
      accepted = m.accepted + accepted_by answer;
    }

-- after so many packets, where the router remembered these entries before
unfoldable pub met : Network → Entries → List (List ℕ) → ℕ → Met
met t entries packets zero = record { entries = entries; accepted = 0 }
met t entries packets (suc n) = met_one t n (slice_index_or packets n NO_PACKET) (met t entries packets n)

abbrev pub accepted_of : Network → Entries → List (List ℕ) → ℕ → ℕ
accepted_of t entries packets rounds = (met t entries packets rounds).accepted

-- 16 bytes that tell how many of so many packets a router of the chain accepts, with what it remembered before
abbrev pub IsRoutedDigest : ℕ → List ℕ → Type 0
IsRoutedDigest rounds digest =
    (t : Network) × (topology CHAIN.now ≡ Ok t)
    × ((entries : Entries) × ((packets : List (List ℕ)) × (digest ≡ cmac KEY (u64_bytes (accepted_of t entries packets rounds)))))
