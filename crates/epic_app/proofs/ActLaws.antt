-- The causes of ends, from what was written.
use Rattle.std.proofs.Common.{◌≡◌, ℕ, Bool, cond, List, [], Some, Result, Ok, Err, refl, sym, ap, ◌∙◌}
use Rattle.std.specs.Prelude.{IfOk}
use Rattle.epic_ports.specs.Faults.{Rose}
use Rattle.epic_ports.specs.Files.{KeepsFiles}
use Rattle.epic_ports.specs.Written.{Appends, AppendsFront, WritesBefore}
use Rattle.epic_ports.specs.declared.error.PortError.{PortError}
use Rattle.epic_ports.specs.declared.error.PortError.TheVariants.{Failed, OutOfMemory}
use Rattle.epic_app.specs.Kept.{Kept}
use Rattle.epic_app.specs.Acts.{Act, Print, World, StopsAt, StopsBefore, prints}
use Rattle.epic_app.specs.Doing.{alarm_status, ends}
use Rattle.epic_app.specs.End.{HasCause, end_after}
use Rattle.epic_app.specs.Performing.{Performs}
use Rattle.epic_app.specs.Writing.{Writes}
use Rattle.epic_app.proofs.ActFiles.{does_nothing, does_text, prints-append, prints-before}

-- ---- a report that was written, or less of it

stops_at : (text : List ℕ) (old new : World) → KeepsFiles old.contents new.contents → WritesBefore old.written new.written text → Rose old.faults new.faults
    → StopsAt (prints text) old new
stops_at text old new keeps less rose = record {
  before = prints less.front;
  act = Print less.byte;
  after = prints less.back;
  order = ap prints less.order ∙ prints-before less.front less.byte less.back;
  done = does_text less.front old new keeps less.written;
  fails = rose;
}

stops_before : (text : List ℕ) (old new : World) → KeepsFiles old.contents new.contents → AppendsFront old.written new.written text → StopsBefore (prints text) old new
stops_before text old new keeps (front, back, is, written) = record {
  before = prints front;
  after = prints back;
  order = ap prints is ∙ prints-append front back;
  done = does_text front old new keeps written;
}

-- the end of a command whose report was written so
pub report_cause : (text : List ℕ) (alarm : Bool) (old new : World) (r : Result Bool PortError) → KeepsFiles old.contents new.contents
    → Writes text old.written new.written old.faults new.faults r → IfOk r (λ b. b ≡ alarm)
    → HasCause (ends (prints text) (alarm_status alarm) []) old new (end_after r)
report_cause text alarm old new (Ok b) keeps writes is = record {
  is_ending = ap (λ (c : Bool). Some (cond {A = ℕ} c 1 0, [])) (sym is);
  done = does_text text old new keeps writes;
}
report_cause text alarm old new (Err Failed) keeps (less, rose) is = stops_at text old new keeps less rose
report_cause text alarm old new (Err OutOfMemory) keeps front is = stops_before text old new keeps front

-- nothing is done before memory is wanting
pub memory_first : (old new : World) → KeepsFiles old.contents new.contents → Appends old.written new.written [] → StopsBefore [] old new
memory_first old new keeps written = record { before = []; after = []; order = refl; done = does_nothing old new keeps written }

-- the end of a command whose acts were done so
pub acts_cause : (kept : List Kept) (acts : List Act) (alarm : Bool) (old new : World) (r : Result Bool PortError) → Performs kept acts old new r
    → IfOk r (λ b. b ≡ alarm) → HasCause (ends acts (alarm_status alarm) []) old new (end_after r)
acts_cause kept acts alarm old new (Ok b) done is = record {
  is_ending = ap (λ (c : Bool). Some (cond {A = ℕ} c 1 0, [])) (sym is);
  done = done;
}
acts_cause kept acts alarm old new (Err Failed) (stops, blamed) is = stops
acts_cause kept acts alarm old new (Err OutOfMemory) stops is = stops
