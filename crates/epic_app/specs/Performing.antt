-- Private: serves proofs of this crate alone; no public contract cites it.
-- What a call leaves that writes to the output and to the files that are kept.
use Rattle.std.specs.Prelude.{◌≡◌, ℕ, ◌≤◌, ◌⊎◌, List, Option, Some, None, Result, Ok, Err, Contains, ⊤}
use Rattle.epic_ports.specs.Faults.{Rose}
use Rattle.epic_ports.specs.Files.{Files}
use Rattle.epic_ports.specs.declared.error.PortError.{PortError}
use Rattle.epic_ports.specs.declared.error.PortError.TheVariants.{Failed, OutOfMemory}
use Rattle.epic_app.specs.Acts.{Act, World, Does, StopsAt, StopsBefore}
use Rattle.epic_app.specs.Kept.{Kept, names}

-- the count of the output's faults rose, or that of the writes to a file that is kept
abbrev pub Blamed : List Kept → World → World → Type 0
Blamed kept old new =
    Rose old.faults new.faults
    ⊎ ((name : List ℕ) × Contains (names kept) name × Rose (old.writes name) (new.writes name))

-- an act failed and those before it were done, or memory was wanting behind some of them
abbrev pub Stopped : List Kept → List Act → World → World → PortError → Type 0
Stopped kept acts old new Failed = StopsAt acts old new × Blamed kept old new
Stopped kept acts old new OutOfMemory = StopsBefore acts old new

-- the acts were done, or less of them after an error
abbrev pub Performs : {X : Type 0} → List Kept → List Act → World → World → Result X PortError → Type 0
Performs kept acts old new (Ok x) = Does acts old new
Performs kept acts old new (Err e) = Stopped kept acts old new e

-- files other than these stay
abbrev pub OthersKeep : List Kept → Option Files → Option Files → Type 0
OthersKeep kept None new = ⊤
OthersKeep kept (Some old) None = ⊥
OthersKeep kept (Some old) (Some new) = (q : List ℕ) → ¬ Contains (names kept) q → new q ≡ old q

-- no count fell, and no file but these was written
pub record Works (kept : List Kept) (old new : World) : Type 0 where
  pub faults : old.faults ≤ new.faults
  pub later : (q : List ℕ) → old.writes q ≤ new.writes q
  pub others : (q : List ℕ) → ¬ Contains (names kept) q → new.writes q ≡ old.writes q
  pub files : OthersKeep kept old.contents new.contents

-- no count fell; no file was read, and none but these was written
pub record Stays (kept : List Kept) (old new : World) : Type 0 where
  pub faults : old.faults ≤ new.faults
  pub reads : new.reads ≡ old.reads
  pub later : (q : List ℕ) → old.writes q ≤ new.writes q
  pub others : (q : List ℕ) → ¬ Contains (names kept) q → new.writes q ≡ old.writes q
  pub files : OthersKeep kept old.contents new.contents
