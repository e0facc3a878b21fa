-- What becomes of packets that come to a host one after the other.
use Rattle.std.specs.Prelude.{◌≡◌, ℕ, zero, suc, ◌+◌, if◌then◌else◌, List, ◌∷◌, Ok, slice_index_or}
use Rattle.epic_cmac.specs.Cmac.{cmac}
use Rattle.epic_num.specs.BigEndian.{u64_bytes}
use Rattle.epic_layout.specs.Layout.{parse}
use Rattle.epic_topo.specs.Network.{Network}
use Rattle.epic_topo.specs.Reading.{topology}
use Rattle.epic_window.specs.Entries.{Entries, told_of}
use Rattle.epic_ends.specs.Arriving.{arrival_of}
use Rattle.epic_ends.specs.Destinations.{end_key, is_accepted}
use Rattle.epic_bench.specs.declared.arrived.TheConstants.{HOST}
use Rattle.epic_bench.specs.declared.routed.TheConstants.{NO_PACKET}
use Rattle.epic_bench.specs.declared.way.TheConstants.{CHAIN, NOW}
use Rattle.epic_bench.specs.declared.work.TheConstants.{KEY}

-- what the host remembers, and how many packets it accepted
pub record Taken : Type 0 where
  pub entries : Entries
  pub accepted : ℕ

-- after one more packet, in the turn of a number
unfoldable pub taken_one : Network → ℕ → List ℕ → Taken → Taken
taken_one t turn bytes m =
    let key = end_key (parse bytes) in
    let answer = arrival_of t HOST NOW (told_of t.profile m.entries NOW key) bytes in
    record {
      entries = if is_accepted answer then (key, turn) ∷ m.entries else m.entries;
      accepted = m.accepted + (if is_accepted answer then 1 else 0);
    }

-- after so many packets, where the host remembered these entries before
unfoldable pub taken : Network → Entries → List (List ℕ) → ℕ → Taken
taken t entries packets zero = record { entries = entries; accepted = 0 }
taken t entries packets (suc n) = taken_one t n (slice_index_or packets n NO_PACKET) (taken t entries packets n)

abbrev pub taken_of : Network → Entries → List (List ℕ) → ℕ → ℕ
taken_of t entries packets rounds = (taken t entries packets rounds).accepted

-- 16 bytes that tell how many of so many packets a host at the end of the chain accepts, with what it remembered before
abbrev pub IsArrivedDigest : ℕ → List ℕ → Type 0
IsArrivedDigest rounds digest =
    (t : Network) × (topology CHAIN.now ≡ Ok t)
    × ((entries : Entries) × ((packets : List (List ℕ)) × (digest ≡ cmac KEY (u64_bytes (taken_of t entries packets rounds)))))
