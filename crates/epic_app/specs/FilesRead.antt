-- Private: serves proofs of this crate alone; no public contract cites it.
-- What a file that was read leads to: a value, or an end of the command.
use Rattle.std.specs.Prelude.{◌≡◌, ℕ, List, [], Option, Result, Ok, Err, IfErr, ⊤}
use Rattle.epic_ports.specs.Faults.{Rose}
use Rattle.epic_ports.specs.Files.{Files}
use Rattle.epic_app.specs.declared.end.End.{End}
use Rattle.epic_app.specs.declared.end.End.TheVariants.{Done, BadWords, ReadFault, WriteFault, OutOfMemory}
use Rattle.epic_app.specs.Doing.{Progress, ends, goes_on}
use Rattle.epic_app.specs.End.{status_of, line_of}
use Rattle.epic_app.specs.Readings.{Reading, IsReading}

-- what follows from a value, or from an end in its place
abbrev pub follows : {X : Type 0} → Result X End → (X → Progress) → Progress
follows (Ok x) next = next x
follows (Err OutOfMemory) next = goes_on []
follows (Err end) next = ends [] (status_of end) (line_of end)

-- an end that comes before anything is done; where a read failed, the count of this file rose
abbrev pub IsEarly : List ℕ → ℕ → ℕ → End → Type 0
IsEarly name before now (Done forged) = ⊥
IsEarly name before now BadWords = ⊥
IsEarly name before now WriteFault = ⊥
IsEarly name before now (ReadFault told) = (told.now ≡ name) × Rose before now
IsEarly name before now end = ⊤

-- there is a reading of this file, which had so many failed reads and has so many now, that leads to this value or this end
pub record Leads {X Y : Type 0} (contents : Option Files) (name : List ℕ) (before now : ℕ) (step : Reading → (Y → Progress) → Progress) (view : X → Y) (result : Result X End) : Type 0 where
  pub reading : Reading
  pub is_reading : IsReading contents name before now reading
  pub leads : (next : Y → Progress) → step reading next ≡ follows result (λ x. next (view x))
  pub early : IfErr result (IsEarly name before now)
