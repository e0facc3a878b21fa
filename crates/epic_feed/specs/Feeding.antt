-- How a capture's file that is fed to a taker ends.
use Rattle.std.specs.Prelude.{◌≡◌, ℕ, ◌⊎◌, List, [], ◌∷◌, ◌++◌, Option, Some, None, Result, Ok, Err}
use Rattle.epic_capture.specs.Records.{Captured, Records}
use Rattle.epic_ports.specs.Faults.{Rose}
use Rattle.epic_ports.specs.Files.{Files}
use Rattle.epic_ports.specs.declared.error.PortError.{PortError}
use Rattle.epic_feed.specs.declared.damage.Damage.{Damage}
use Rattle.epic_feed.specs.declared.feeding.FeedError.{FeedError}
use Rattle.epic_feed.specs.declared.feeding.FeedError.TheVariants.{Damaged, Failed, Stopped, OutOfMemory}
use Rattle.epic_feed.specs.Files.{Holds, Begins}
use Rattle.epic_feed.specs.Forms.{records_in}

-- a file, read as `read` says, of which some first bytes are known
pub record Source : Type 0 where
  pub contents : Option Files
  pub name : List ℕ
  pub first : List ℕ
  pub read : List ℕ → Records Damage

-- the file of a name, from its beginning
abbrev pub capture_in : Option Files → List ℕ → Source
capture_in contents name = record { contents = contents; name = name; first = []; read = records_in }

-- so it is of the records of the file
abbrev pub OfFile : Source → (Records Damage → Type 0) → Type 0
OfFile source P = (rest : List ℕ) × Holds source.contents source.name (source.first ++ rest) × P (source.read (source.first ++ rest))

-- so it is of the records of some first bytes of it
abbrev pub OfFront : Source → (Records Damage → Type 0) → Type 0
OfFront source P = (rest : List ℕ) × Begins source.contents source.name (source.first ++ rest) × P (source.read (source.first ++ rest))

-- these records were taken, and with them the file has this damage or none
pub record TookAll (took : List Captured → Type 0) (damage : Option Damage) (r : Records Damage) : Type 0 where
  pub whole : r.damage ≡ damage
  pub taken : took r.items

-- the first of these records were taken
pub record TookSome (took : List Captured → Type 0) (r : Records Damage) : Type 0 where
  pub front : List Captured
  pub back : List Captured
  pub order : r.items ≡ front ++ back
  pub taken : took front

-- the first of these records were taken, and the next wasn't
pub record StoppedAt (stopped : List Captured → Captured → Type 0) (r : Records Damage) : Type 0 where
  pub front : List Captured
  pub at : Captured
  pub back : List Captured
  pub order : r.items ≡ front ++ at ∷ back
  pub stops : stopped front at

-- All records were taken; or those before the damage; or those of some first bytes, where a read failed, so that the count
-- of its failures rose; or those before the one where the taker stopped; or some first ones, where memory ran out.
abbrev pub Feeds : {X : Type 0} → Source → ℕ → ℕ → (List Captured → Type 0) → (List Captured → Captured → PortError → Type 0) → Result X FeedError → Type 0
Feeds source before now took stopped (Ok x) = OfFile source (TookAll took None)
Feeds source before now took stopped (Err (Damaged e)) = OfFile source (TookAll took (Some e))
Feeds source before now took stopped (Err Failed) = OfFront source (λ r. took r.items) × Rose before now
Feeds source before now took stopped (Err (Stopped e)) = OfFile source (StoppedAt (λ front at. stopped front at e))
Feeds source before now took stopped (Err OutOfMemory) = took [] ⊎ OfFile source (TookSome took)
