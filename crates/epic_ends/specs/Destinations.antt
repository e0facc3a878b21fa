-- A destination: a host, and what it remembers of packets.
use Rattle.std.specs.Prelude.{ℕ, Bool, true, false}
use Rattle.epic_num.specs.declared.arrival.Arrival.{Arrival}
use Rattle.epic_num.specs.declared.arrival.Arrival.TheVariants.{Accepted, Unchecked, Refused}
use Rattle.epic_num.specs.declared.name.HostId.{HostId}
use Rattle.epic_num.specs.Windows.{Told}
use Rattle.epic_layout.specs.Contents.{Contents, hop_count}
use Rattle.epic_window.specs.Entries.{told_of}
use Rattle.epic_window.specs.Offers.{Held}
use Rattle.epic_window.specs.declared.key.WinKey.{WinKey}
use Rattle.epic_router.specs.Remembering.{key_at}

-- a host with its replay window
pub record Destination : Type 0 where
  pub host : HostId
  pub window : Held

-- a host knows a packet by the number of its hops
unfoldable pub end_key : Contents → WinKey
end_key p = key_at p (hop_count p)

-- what its window tells of a packet at a moment
unfoldable pub told_at : Held → ℕ → Contents → Told
told_at window now p = told_of window.profile window.entries now (end_key p)

-- the packet was accepted
abbrev pub is_accepted : Arrival → Bool
is_accepted Accepted = true
is_accepted Unchecked = false
is_accepted (Refused check) = false
