-- What every ledger of a world keeps, and that passes keep it.
use Rattle.std.specs.Prelude.{◌≡◌, ℕ, true, List}
use Rattle.epic_num.specs.declared.name.AsId.{AsId}
use Rattle.epic_num.specs.declared.name.HostId.{HostId}
use Rattle.epic_layout.specs.Reading.{IsRead}
use Rattle.epic_topo.specs.Network.{Network, has}
use Rattle.epic_ledger.specs.History.{History}
use Rattle.epic_ledger.specs.Facts.{facts_of}
use Rattle.epic_ledger.specs.Lawful.{IsLast, IsLawful}
use Rattle.epic_audit.specs.Kept.{Kept}
use Rattle.epic_model.specs.Passing.{turned_at, arrived_at}

-- a ledger is lawful and kept, and none of its events is of a later step
pub record IsSound (t : Network) (h : History) (step : ℕ) : Type 0 where
  pub lawful : IsLawful h
  pub kept : Kept t (facts_of h)
  pub last : IsLast h.events step

-- a turn of any bytes at an AS of the topology keeps it so
abbrev pub TurnsAreSound : Type 0
TurnsAreSound =
    (t : Network) (step now : ℕ) (h : History) (a : AsId) (iface : ℕ) (bytes : List ℕ)
    → has t a ≡ true → IsRead bytes → IsSound t h step
    → IsSound t (turned_at t step now h a iface bytes).history step

-- and an arrival does
abbrev pub ArrivalsAreSound : Type 0
ArrivalsAreSound =
    (t : Network) (step now : ℕ) (h : History) (d : HostId) (bytes : List ℕ)
    → IsSound t h step → IsSound t (arrived_at t step now h d bytes).history step
