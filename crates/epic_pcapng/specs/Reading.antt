-- A reader of a capture in pieces: how far it came, and what is still to come.
use Rattle.std.specs.Prelude.{ℕ, ◌+◌, ◌-◌, List, [], ◌++◌, length, drop, Option, Some, None, Result, Ok, Err}
use Rattle.epic_capture.specs.Records.{Records, damaged}
use Rattle.epic_capture.specs.Streams.{Stream}
use Rattle.epic_pcapng.specs.declared.cursor.Skip.{Skip}
use Rattle.epic_pcapng.specs.declared.damage.NgError.{NgError}
use Rattle.epic_pcapng.specs.declared.section.Section.{Section}
use Rattle.epic_pcapng.specs.Damage.{is_truncated}
use Rattle.epic_pcapng.specs.Blocks.{ends}
use Rattle.epic_pcapng.specs.Grammar.{first_section, records_from}

-- A reader's value: what is known of the section, the block that is being skipped, where the bytes that are held begin in the
-- file, and these bytes.
pub record Reading : Type 0 where
  pub section : Section
  pub skip : Option Skip
  pub offset : ℕ
  pub held : List ℕ

-- nothing was fed
abbrev pub start : Reading
start = record { section = first_section; skip = None; offset = 0; held = [] }

-- the records behind a block that is being skipped, of which the bytes before `offset` were passed
abbrev pub after_skip : Section → Skip → ℕ → List ℕ → Result (Unit {0}) NgError → Records NgError
after_skip section skip offset bytes (Err e) = damaged e
after_skip section skip offset bytes (Ok done) = records_from section (skip.begin + skip.len) (drop (skip.len - (offset - skip.begin)) bytes)

abbrev pub to_come_of : Section → Option Skip → ℕ → List ℕ → Records NgError
to_come_of section None offset bytes = records_from section offset bytes
to_come_of section (Some skip) offset bytes =
    after_skip section skip offset bytes (ends section.order skip.begin skip.len (offset - skip.begin) bytes)

abbrev pub ngcapture : Stream Reading NgError
ngcapture = record {
  to_come = λ s rest. to_come_of s.section s.skip s.offset (s.held ++ rest);
  fed = λ s. s.offset + length s.held;
  held = λ s. s.held;
  size = 65536;
  is_early = λ e. is_truncated e.kind;
}

-- the reader's value once more bytes were fed
abbrev pub with_bytes : Reading → List ℕ → Reading
with_bytes s piece = record { section = s.section; skip = s.skip; offset = s.offset; held = s.held ++ piece }
