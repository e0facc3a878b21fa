-- What the parts of a ledger are to it.
use Rattle.std.specs.Prelude.{ℕ, List}
use Rattle.epic_ledger.specs.History.{Emission}
use Rattle.epic_ledger.specs.declared.event.Event.{Event}

-- the events, and for how many more there is room
pub record Logged : Type 0 where
  pub events : List Event
  pub spare : ℕ

-- the emissions, and for how many more, and how many more bytes, there is room
pub record Row : Type 0 where
  pub emissions : List Emission
  pub spare : ℕ
  pub byte_spare : ℕ
