-- A ledger as its callers see it: what it holds, and for how much more it has room.
use Rattle.std.specs.Prelude.{ℕ}
use Rattle.epic_ledger.specs.History.{History}

-- how many events, emissions and emitted bytes a ledger takes without memory
pub record Spare : Type 0 where
  pub events : ℕ
  pub emissions : ℕ
  pub bytes : ℕ

pub record Recorded : Type 0 where
  pub history : History
  pub spare : Spare
