-- How the steps of a run are shown.
use Rattle.std.specs.Prelude.{ℕ, Bool, Option}
use Rattle.epic_words.specs.Request.{Policing}

pub record Showing : Type 0 where
  -- how many commands the script has
  pub script : ℕ
  -- whether it is said who can have made the fields of level 1
  pub makers : Bool
  -- the settings of the policers, if packets are policed
  pub police : Option Policing
