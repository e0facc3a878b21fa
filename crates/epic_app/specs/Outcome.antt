-- How a command may end: the contract of the top call. A new command changes nothing here.
use Rattle.std.specs.Prelude.{◌≡◌, ℕ, ◌<◌, ◌⊎◌, List, Option, Some, None, Contains, IsTrue, codes, ⊤}
use Rattle.std.specs.List.{AllByRecursion}
use Rattle.epic_ports.specs.Faults.{Rose}
use Rattle.epic_ports.specs.Files.{Files}
use Rattle.epic_ports.specs.Written.{Appends, WritesBefore}
use Rattle.epic_app.specs.Acts.{World, Does, StopsAt, StopsBefore}
use Rattle.epic_app.specs.Captures.{RecordsFit, captures_of}
use Rattle.epic_app.specs.Doing.{Progress, doing}
use Rattle.epic_app.specs.FaultLines.{memory_line, words_line, write_line}
use Rattle.epic_app.specs.Readings.{Reading, AreRead}
use Rattle.epic_words.specs.Request.{Request, is_command, reads_of, request_of, writes_of}

-- the sink of errors
pub record ErrorSink : Type 0 where
  pub written : Option (List ℕ)
  pub faults : ℕ

abbrev pub error_sink : Option (List ℕ) → ℕ → ErrorSink
error_sink written faults = record { written = written; faults = faults }

-- a line was written, or less of it where the count of faults rose
abbrev pub Tells : ErrorSink → ErrorSink → List ℕ → Type 0
Tells old new line =
    Appends old.written new.written line ⊎ (WritesBefore old.written new.written line × Rose old.faults new.faults)

-- ---- the three ways to end

-- Statuses 0, 1, 3, 4, 5 and 6: what was read decides status and line, and all that it asks for was done.
pub record Decides (p : Progress) (old new : World) (e f : ErrorSink) (status : ℕ) : Type 0 where
  pub line : List ℕ
  pub is_ending : p.ending ≡ Some (status, line)
  pub done : Does p.acts old new
  pub tells : Tells e f line

-- Status 7: an act failed, and those before it were done.
pub record WriteFails (p : Progress) (old new : World) (e f : ErrorSink) (status : ℕ) : Type 0 where
  pub is_status : status ≡ 7
  pub stops : StopsAt p.acts old new
  pub tells : Tells e f write_line

-- Status 8: memory was wanting, and the acts before some place were done.
pub record MemoryEnds (p : Progress) (old new : World) (e f : ErrorSink) (status : ℕ) : Type 0 where
  pub is_status : status ≡ 8
  pub stops : StopsBefore p.acts old new
  pub tells : Tells e f memory_line

abbrev pub EndsBy : Progress → World → World → ErrorSink → ErrorSink → ℕ → Type 0
EndsBy p old new e f status =
    Decides p old new e f status ⊎ (WriteFails p old new e f status ⊎ MemoryEnds p old new e f status)

-- ---- what else stays

-- the counts of files that aren't read or written stay
pub record CountsStay (request : Request) (old new : World) : Type 0 where
  pub reads : (name : List ℕ) → ¬ Contains (reads_of request) name → new.reads name ≡ old.reads name
  pub writes : (name : List ℕ) → ¬ Contains (writes_of request) name → new.writes name ≡ old.writes name

-- files that aren't written stay, where contents are told
abbrev pub FilesStay : Request → Option Files → Option Files → Type 0
FilesStay request None new = ⊤
FilesStay request (Some old) None = ⊥
FilesStay request (Some old) (Some new) =
    (name : List ℕ) → ¬ Contains (writes_of request) name → new name ≡ old name

-- a write failed, of the output or of a file that is written
abbrev pub WriteRose : Request → World → World → Type 0
WriteRose request old new =
    Rose old.faults new.faults
    ⊎ ((name : List ℕ) × Contains (writes_of request) name × Rose (old.writes name) (new.writes name))

-- no read of a file that is read and no write of the output or of a file that is written failed
pub record NoFault (request : Request) (old new : World) : Type 0 where
  pub reads : (name : List ℕ) → Contains (reads_of request) name → ¬ Rose (old.reads name) (new.reads name)
  pub writes : ¬ WriteRose request old new

-- ---- the contract of the top call

-- a command ended with this status, the errors going from e to f
pub record EndsWith (request : Request) (old new : World) (e f : ErrorSink) (status : ℕ) : Type 0 where
  -- what was read of each file that it reads
  pub readings : List Reading
  pub are_read : AreRead old new (reads_of request) readings
  pub ends : EndsBy (doing request readings) old new e f status
  -- where nothing fails, the files decide, or memory is wanting
  pub complete : NoFault request old new → (status < 6) ⊎ (status ≡ 8)
  -- what was read of a capture fits its types, where the run was done
  pub fits : status < 2 → AllByRecursion RecordsFit (captures_of request readings)
  pub counts : CountsStay request old new
  pub files : FilesStay request old.contents new.contents

-- the words are no command; or, where the first of them is `run`, memory was wanting for reading them
abbrev pub Refuses : List (List ℕ) → ErrorSink → ErrorSink → ℕ → Type 0
Refuses words e f status =
    ((status ≡ 2) × Tells e f words_line)
    ⊎ ((status ≡ 8) × IsTrue (is_command (codes "run") words) × Tells e f memory_line)

abbrev pub EndsUnder : List (List ℕ) → Option Request → World → World → ErrorSink → ErrorSink → ℕ → Type 0
EndsUnder words None old new e f status = (new ≡ old) × Refuses words e f status
EndsUnder words (Some request) old new e f status = EndsWith request old new e f status

-- the words of a command line, the world and the errors before and after it, and its status
abbrev pub Ends : List (List ℕ) → World → World → ErrorSink → ErrorSink → ℕ → Type 0
Ends words old new e f status = EndsUnder words (request_of words) old new e f status
