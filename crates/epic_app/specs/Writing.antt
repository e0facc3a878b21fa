-- Private: serves proofs of this crate alone; no public contract cites it.
-- What a call that writes a text to the output leaves there.
use Rattle.std.specs.Prelude.{ℕ, List, Option, Result, Ok, Err}
use Rattle.epic_ports.specs.Faults.{Rose}
use Rattle.epic_ports.specs.Written.{Appends, AppendsFront, WritesBefore}
use Rattle.epic_ports.specs.declared.error.PortError.{PortError}
use Rattle.epic_ports.specs.declared.error.PortError.TheVariants.{Failed, OutOfMemory}

-- a write failed, which was counted, and some byte of the text is left; or memory was wanting behind a front of it
abbrev pub Stops : List ℕ → Option (List ℕ) → Option (List ℕ) → ℕ → ℕ → PortError → Type 0
Stops text old new before now Failed = WritesBefore old new text × Rose before now
Stops text old new before now OutOfMemory = AppendsFront old new text

-- the text was written, or less of it after an error
abbrev pub Writes : {X : Type 0} → List ℕ → Option (List ℕ) → Option (List ℕ) → ℕ → ℕ → Result X PortError → Type 0
Writes text old new before now (Ok x) = Appends old new text
Writes text old new before now (Err e) = Stops text old new before now e
