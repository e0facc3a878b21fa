-- What a command does, byte by byte, and what that makes of the output and of the files.
use Rattle.std.specs.Prelude.{◌≡◌, ℕ, if◌then◌else◌, List, [], ◌∷◌, ◌++◌, map, fold, Option, Some, None, bytes_eq, ⊤}
use Rattle.epic_ports.specs.Faults.{Rose}
use Rattle.epic_ports.specs.Files.{Files, bytes_or_none}
use Rattle.epic_ports.specs.Written.{Appends}

-- the store and the output: contents and what was written, each where it is told, and the counts of faults
pub record World : Type 0 where
  pub contents : Option Files
  pub reads : List ℕ → ℕ
  pub writes : List ℕ → ℕ
  pub written : Option (List ℕ)
  pub faults : ℕ

abbrev pub world : Option Files → (List ℕ → ℕ) → (List ℕ → ℕ) → Option (List ℕ) → ℕ → World
world contents reads writes written faults = record {
  contents = contents;
  reads = reads;
  writes = writes;
  written = written;
  faults = faults;
}

-- ---- acts

pub data Act : Type 0 where
  -- a byte is written to the output
  Print : (byte : ℕ) → Act
  -- a file is made empty, whether it was there or not
  Create : (name : List ℕ) → Act
  -- a byte is added at the end of a file, which is made where it isn't there
  Append : (name : List ℕ) → (byte : ℕ) → Act

-- a text is written to the output
unfoldable pub prints : List ℕ → List Act
prints text = map Print text

-- a file is made empty
unfoldable pub creates : List ℕ → List Act
creates name = Create name ∷ []

-- a text is added at the end of a file
unfoldable pub appends : List ℕ → List ℕ → List Act
appends name text = map (Append name) text

-- ---- acts that were done

-- what acts write to the output
unfoldable pub printed : List Act → List ℕ
printed [] = []
printed (Print byte ∷ acts) = byte ∷ printed acts
printed (Create name ∷ acts) = printed acts
printed (Append name byte ∷ acts) = printed acts

-- what a file holds after an act, and held before; none where it isn't there
unfoldable pub after_act : List ℕ → Option (List ℕ) → Act → Option (List ℕ)
after_act name held (Print byte) = held
after_act name held (Create created) = if bytes_eq created name then Some [] else held
after_act name held (Append grown byte) =
    if bytes_eq grown name then Some (bytes_or_none held ++ byte ∷ []) else held

-- each file holds what the acts make of it, where contents are told
abbrev pub FilesBecome : List Act → Option Files → Option Files → Type 0
FilesBecome acts None new = ⊤
FilesBecome acts (Some old) None = ⊥
FilesBecome acts (Some old) (Some new) = (name : List ℕ) → new name ≡ fold (after_act name) (old name) acts

-- these acts were done, and no others
pub record Does (acts : List Act) (old new : World) : Type 0 where
  pub output : Appends old.written new.written (printed acts)
  pub files : FilesBecome acts old.contents new.contents

-- ---- acts that were not all done

-- the count of an act's failures rose: the output's, or that of the file's writes
abbrev pub Fails : Act → World → World → Type 0
Fails (Print byte) old new = Rose old.faults new.faults
Fails (Create name) old new = Rose (old.writes name) (new.writes name)
Fails (Append name byte) old new = Rose (old.writes name) (new.writes name)

-- an act failed, and those before it were done
pub record StopsAt (acts : List Act) (old new : World) : Type 0 where
  pub before : List Act
  pub act : Act
  pub after : List Act
  pub order : acts ≡ before ++ act ∷ after
  pub done : Does before old new
  pub fails : Fails act old new

-- the acts before some place were done
pub record StopsBefore (acts : List Act) (old new : World) : Type 0 where
  pub before : List Act
  pub after : List Act
  pub order : acts ≡ before ++ after
  pub done : Does before old new
