-- How a command's code says that it ended.
use Rattle.std.specs.Prelude.{◌≡◌, ℕ, ◌<◌, if◌then◌else◌, Bool, List, [], Option, Some, None, Result, Ok, Err, Contains, IsTrue, codes, ◌⊎◌, ⊤}
use Rattle.std.specs.List.{AllByRecursion}
use Rattle.epic_ports.specs.Faults.{Rose}
use Rattle.epic_ports.specs.declared.error.PortError.{PortError}
use Rattle.epic_ports.specs.declared.error.PortError.TheVariants as port_error
use Rattle.epic_app.specs.declared.end.End.{End}
use Rattle.epic_app.specs.declared.end.End.TheVariants.{Done, BadWords, BadTopology, LongTopology, BadScript, LongScript, BadCapture, BadFile, ReadFault, WriteFault, OutOfMemory}
use Rattle.epic_app.specs.Acts.{World, Does, StopsAt, StopsBefore}
use Rattle.epic_app.specs.Captures.{RecordsFit, captures_of}
use Rattle.epic_app.specs.Doing.{Progress, doing}
use Rattle.epic_app.specs.FaultLines.{words_line, topology_line, long_topology_line, fault_line, too_long_line, capture_line, file_line, read_line, write_line, memory_line}
use Rattle.epic_app.specs.Outcome.{CountsStay, FilesStay, WriteRose}
use Rattle.epic_app.specs.Readings.{Reading, AreRead}
use Rattle.epic_words.specs.Request.{Request, is_command, reads_of}

abbrev pub status_of : End → ℕ
status_of (Done forged) = if forged then 1 else 0
status_of BadWords = 2
status_of (BadScript line kind) = 4
status_of LongScript = 4
status_of (BadTopology kind key item) = 3
status_of LongTopology = 3
status_of (BadCapture damage) = 5
status_of (BadFile file line kind) = 4
status_of (ReadFault name) = 6
status_of WriteFault = 7
status_of OutOfMemory = 8

-- the line that the errors get
abbrev pub line_of : End → List ℕ
line_of (Done forged) = []
line_of BadWords = words_line
line_of (BadScript line kind) = fault_line line kind
line_of LongScript = too_long_line
line_of (BadTopology kind key item) = topology_line kind key item
line_of LongTopology = long_topology_line
line_of (BadCapture damage) = capture_line damage
line_of (BadFile file line kind) = file_line file line kind
line_of (ReadFault name) = read_line name.now
line_of WriteFault = write_line
line_of OutOfMemory = memory_line

-- what was read decides status and line, and all that it asks for was done
pub record Decided (p : Progress) (old new : World) (status : ℕ) (line : List ℕ) : Type 0 where
  pub is_ending : p.ending ≡ Some (status, line)
  pub done : Does p.acts old new

abbrev pub HasCause : Progress → World → World → End → Type 0
HasCause p old new BadWords = ⊥
HasCause p old new WriteFault = StopsAt p.acts old new
HasCause p old new OutOfMemory = StopsBefore p.acts old new
HasCause p old new end = Decided p old new (status_of end) (line_of end)

-- the count that rose where a read or a write failed
abbrev pub Blames : Request → World → World → End → Type 0
Blames request old new (ReadFault name) = Contains (reads_of request) name.now × Rose (old.reads name.now) (new.reads name.now)
Blames request old new WriteFault = WriteRose request old new
Blames request old new end = ⊤

-- a command that isn't refused for its words ended so
pub record EndsAs (request : Request) (old new : World) (end : End) : Type 0 where
  pub readings : List Reading
  pub are_read : AreRead old new (reads_of request) readings
  pub cause : HasCause (doing request readings) old new end
  pub blames : Blames request old new end
  pub fits : status_of end < 2 → AllByRecursion RecordsFit (captures_of request readings)
  pub counts : CountsStay request old new
  pub files : FilesStay request old.contents new.contents

-- nothing was done where the words are no command, or memory was wanting for reading them after `run`; else what they ask for ended so
abbrev pub EndsFor : List (List ℕ) → Option Request → World → World → End → Type 0
EndsFor words None old new end =
    (new ≡ old) × ((end ≡ BadWords) ⊎ ((end ≡ OutOfMemory) × IsTrue (is_command (codes "run") words)))
EndsFor words (Some request) old new end = EndsAs request old new end

-- the end of a command that answers this to the writing of its report
abbrev pub end_after : Result Bool PortError → End
end_after (Ok forged) = Done forged
end_after (Err port_error.Failed) = WriteFault
end_after (Err port_error.OutOfMemory) = OutOfMemory
