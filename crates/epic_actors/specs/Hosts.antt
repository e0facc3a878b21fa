-- The hosts of a world that packets come to, each made at first use. Their windows stand for what the ledger tells.
use Rattle.std.specs.Prelude.{◌≡◌, ℕ, ◌≤◌, List, [], Option, None, Some}
use Rattle.std.specs.BTreeMap.{is_at}
use Rattle.std.specs.Map.{lookup}
use Rattle.std.specs.declared.cmp.Ordering.{Ordering}
use Rattle.std.specs.Ordering.{nat_cmp, ordering_then}
use Rattle.epic_num.specs.declared.name.HostId.{HostId}
use Rattle.epic_topo.specs.Network.{Network}
use Rattle.epic_ends.specs.Destinations.{Destination}
use Rattle.epic_ledger.specs.History.{History}
use Rattle.epic_model.specs.Standing.{StandsFor}
use Rattle.epic_model.specs.Windows.{host_window}

-- hosts by the numbers of their ASes, then by their own
abbrev pub host_cmp : ℕ × ℕ → ℕ × ℕ → Ordering
host_cmp j k = ordering_then (nat_cmp j.0 k.0) (nat_cmp j.1 k.1)

-- what is seen of the hosts: the entries, by the numbers of their ASes and their own there, are read by `host_of` alone
pub record HostTable : Type 0 where
  pub entries : List ((ℕ × ℕ) × Destination)

-- a host, if it was made
unfoldable pub host_of : HostTable → HostId → Option Destination
host_of table d = lookup (is_at (host_cmp (d.asn.0, d.host))) table.entries

-- it is there, with room for so many more packets
abbrev pub HasHostRoom : ℕ → Option Destination → Type 0
HasHostRoom n None = ⊥
HasHostRoom n (Some x) = n ≤ x.window.spare

-- From a moment on a host's window stands for what the ledger tells of it. Of a host that wasn't made the ledger tells nothing.
abbrev pub HostStandsAt : Network → ℕ → History → HostId → Option Destination → Type 0
HostStandsAt t now h d None = host_window h d ≡ []
HostStandsAt t now h d (Some x) = (x.host ≡ d) × StandsFor t now x.window (host_window h d)

-- so all hosts
abbrev pub HostsStandFor : Network → ℕ → HostTable → History → Type 0
HostsStandFor t now table h = (d : HostId) → HostStandsAt t now h d (host_of table d)
