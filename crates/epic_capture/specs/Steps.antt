-- Private: serves proofs of this crate alone; no public contract cites it.
-- How a reader goes on by one record.
use Rattle.std.specs.Prelude.{ℕ, ◌==◌, if◌then◌else◌, List, drop, Option, Some, None, Result, Ok, Err}
use Rattle.epic_capture.specs.declared.damage.CaptureError.{CaptureError}
use Rattle.epic_capture.specs.declared.damage.CaptureKind.TheVariants.{Truncated}
use Rattle.epic_capture.specs.declared.format.Format.{Format}
use Rattle.epic_capture.specs.declared.found.Found.{Found}
use Rattle.epic_capture.specs.declared.progress.Progress.{Progress}
use Rattle.epic_capture.specs.declared.cursor.Cursor.{Cursor}
use Rattle.epic_capture.specs.Records.{Captured}
use Rattle.epic_capture.specs.Capture.{damage, captured, head}
use Rattle.epic_capture.specs.Reading.{Reading, begun, is_truncated}

abbrev pub reading_of : Cursor → Reading
reading_of c = record { progress = c.progress; held = c.buffer.held }

abbrev pub opening_head : Result Format CaptureError → Result Progress CaptureError
opening_head (Err e) = Err e
opening_head (Ok format) = Ok (begun format)

-- what is known behind the file's header
abbrev pub opening_of : Option Progress → List ℕ → Result Progress CaptureError
opening_of None bytes = opening_head (head bytes)
opening_of (Some p) bytes = Ok p

abbrev pub opening : Reading → Result Progress CaptureError
opening s = opening_of s.progress s.held

abbrev pub opened_head : List ℕ → Result Format CaptureError → Reading
opened_head bytes (Err e) = record { progress = None; held = bytes }
opened_head bytes (Ok format) = record { progress = Some (begun format); held = drop 24 bytes }

-- the reader's value behind the file's header, where that is there
abbrev pub opened_of : Option Progress → List ℕ → Reading
opened_of None bytes = opened_head bytes (head bytes)
opened_of (Some p) bytes = record { progress = Some p; held = bytes }

abbrev pub opened : Reading → Reading
opened s = opened_of s.progress s.held

-- the answer at damage
abbrev pub answer_of : CaptureError → Result (Option Captured) CaptureError
answer_of e = if is_truncated e.kind then Ok None else Err e

-- the answer, where a record's bytes are these
abbrev pub told_by : Result (Option Found) CaptureError → List ℕ → Result (Option Captured) CaptureError
told_by (Ok (Some found)) bytes = Ok (Some (captured found bytes))
told_by (Ok None) bytes = Ok None
told_by (Err e) bytes = Err e

-- the damage of a file whose last bytes are no whole record
unfoldable pub unread : ℕ → ℕ → Option CaptureError
unread begin len = if len == 0 then None else Some (damage Truncated begin)
