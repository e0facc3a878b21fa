-- A reader of a capture in pieces: how far it came, and what is still to come.
use Rattle.std.specs.Prelude.{ℕ, ◌+◌, ◌-◌, Bool, true, false, List, [], ◌++◌, length, Option, Some, None}
use Rattle.epic_capture.specs.declared.damage.CaptureError.{CaptureError}
use Rattle.epic_capture.specs.declared.damage.CaptureKind.{CaptureKind}
use Rattle.epic_capture.specs.declared.damage.CaptureKind.TheVariants.{Truncated}
use Rattle.epic_capture.specs.declared.format.Format.{Format}
use Rattle.epic_capture.specs.declared.progress.Progress.{Progress}
use Rattle.epic_capture.specs.Records.{Records}
use Rattle.epic_capture.specs.Streams.{Stream}
use Rattle.epic_capture.specs.Capture.{most_records, records, records_from}

-- A reader's value: what it knows once it has read the file's header, and the bytes that were fed and not passed.
pub record Reading : Type 0 where
  pub progress : Option Progress
  pub held : List ℕ

-- nothing was fed
abbrev pub start : Reading
start = record { progress = None; held = [] }

-- right behind the file's header
abbrev pub begun : Format → Progress
begun format = record { format = format; left = most_records; offset = 24 }

-- behind a record of `len` bytes
abbrev pub behind : Progress → ℕ → Progress
behind progress len = record { format = progress.format; left = progress.left - 1; offset = progress.offset + len }

-- the records of the bytes behind what was read
abbrev pub to_come_of : Option Progress → List ℕ → Records CaptureError
to_come_of None bytes = records bytes
to_come_of (Some p) bytes = records_from p.left p.format p.offset bytes

abbrev pub passed : Option Progress → ℕ
passed None = 0
passed (Some p) = p.offset

abbrev pub is_truncated : CaptureKind → Bool
is_truncated Truncated = true
is_truncated _ = false

abbrev pub capture : Stream Reading CaptureError
capture = record {
  to_come = λ s rest. to_come_of s.progress (s.held ++ rest);
  fed = λ s. passed s.progress + length s.held;
  held = λ s. s.held;
  size = 16400;
  is_early = λ e. is_truncated e.kind;
}

-- the reader's value once more bytes were fed
abbrev pub with_bytes : Reading → List ℕ → Reading
with_bytes s piece = record { progress = s.progress; held = s.held ++ piece }
