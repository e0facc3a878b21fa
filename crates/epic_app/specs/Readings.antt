-- What a command read of its files.
use Rattle.std.specs.Prelude.{ℕ, List, Option, ⊤}
use Rattle.std.specs.List.{AllZip}
use Rattle.epic_ports.specs.Faults.{Rose}
use Rattle.epic_ports.specs.Files.{Files}
pub use Rattle.epic_feed.specs.Files.{Holds, Begins}
use Rattle.epic_app.specs.Acts.{World}

pub data Reading : Type 0 where
  -- the file was read to its end, or past its limit
  Whole : (bytes : List ℕ) → Reading
  -- these bytes came first, and then a read failed
  Failed : (front : List ℕ) → Reading
  -- the file was not looked at
  Unread : Reading

-- this is a reading of a file of which so many reads had failed before, and have failed now
abbrev pub IsReading : Option Files → List ℕ → ℕ → ℕ → Reading → Type 0
IsReading contents name before now (Whole bytes) = Holds contents name bytes
IsReading contents name before now (Failed front) = Begins contents name front × Rose before now
IsReading contents name before now Unread = ⊤

abbrev pub IsRead : World → World → List ℕ → Reading → Type 0
IsRead old new name reading = IsReading old.contents name (old.reads name) (new.reads name) reading

-- one for each of the names, in order
abbrev pub AreRead : World → World → List (List ℕ) → List Reading → Type 0
AreRead old new names readings = AllZip (IsRead old new) names readings
