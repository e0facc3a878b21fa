-- Private: serves proofs of this crate alone; no public contract cites it.
-- How a reader goes on by one block.
use Rattle.std.specs.Prelude.{◌≡◌, ℕ, ◌+◌, ◌-◌, ◌<◌, ◌≤◌, true, false, if◌then◌else◌, List, [], length, drop, Option, Some, None, Result, Ok, Err}
use Rattle.std.specs.Result.{result_err}
use Rattle.epic_capture.specs.declared.numbers.Order.{Order}
use Rattle.epic_capture.specs.Records.{Captured, damaged, with_record}
use Rattle.epic_capture.specs.Streams.{first, next}
use Rattle.epic_pcapng.specs.declared.cursor.Cursor.{Cursor}
use Rattle.epic_pcapng.specs.declared.cursor.Skip.{Skip}
use Rattle.epic_pcapng.specs.declared.damage.NgError.{NgError}
use Rattle.epic_pcapng.specs.declared.packet.Found.{Found}
use Rattle.epic_pcapng.specs.declared.section.Section.{Section}
use Rattle.epic_pcapng.specs.Damage.{is_truncated}
use Rattle.epic_pcapng.specs.Grammar.{Step, captured, records_from}
use Rattle.epic_pcapng.specs.Reading.{Reading, ngcapture}

abbrev pub stepped : Result (Option Found) NgError → Section → List ℕ → Result Step NgError
stepped (Ok None) section block = Ok (record { section = section; item = None })
stepped (Ok (Some found)) section block = Ok (record { section = section; item = Some (captured found block) })
stepped (Err e) section block = Err e

abbrev pub reading_of : Cursor → Reading
reading_of c = record { section = c.section; skip = c.skip; offset = c.offset; held = c.buffer.held }

-- the first n bytes were passed
abbrev pub passed : Reading → ℕ → Reading
passed s n = record { section = s.section; skip = s.skip; offset = s.offset + n; held = drop n s.held }

-- the answer at damage
abbrev pub answer_of : NgError → Result (Option Captured) NgError
answer_of e = if is_truncated e.kind then Ok None else Err e

-- A reader that skips a block is inside of it.
abbrev pub IsInside : ℕ → Option Skip → Type 0
IsInside offset None = Unit {0}
IsInside offset (Some skip) = (skip.begin ≤ offset) × (4 + (offset - skip.begin) ≤ skip.len)

-- What is true of each reader.
pub record IsSound (s : Reading) : Type 0 where
  pub limit : s.offset ≤ 67108864
  pub inside : IsInside s.offset s.skip

-- A block, or a part of one, was passed without a record.
pub record Moves (old new : Reading) : Type 0 where
  pub same : (rest : List ℕ) → ngcapture.to_come old rest ≡ ngcapture.to_come new rest
  pub fed : ngcapture.fed new ≡ ngcapture.fed old
  pub fewer : length new.held < length old.held

-- No more can be read; this is the damage, unless further bytes come.
pub record Stops (s : Reading) (e : NgError) : Type 0 where
  pub next : next ngcapture s ≡ answer_of e
  pub stays : (rest : List ℕ) → is_truncated e.kind ≡ false → ngcapture.to_come s rest ≡ damaged e
  pub room : is_truncated e.kind ≡ true → length s.held < 65536
  pub limit : is_truncated e.kind ≡ true → ngcapture.fed s ≤ 67108864

-- A packet was passed.
pub record Gives (old : Reading) (x : Captured) (new : Reading) : Type 0 where
  pub same : (rest : List ℕ) → ngcapture.to_come old rest ≡ with_record x (ngcapture.to_come new rest)
  pub fed : ngcapture.fed new ≡ ngcapture.fed old
  pub fewer : length new.held < length old.held

-- What a step comes to: `last` are the bytes that were passed last.
abbrev pub StepsTo : Reading → Result (Option Found) NgError → List ℕ → Reading → Type 0
StepsTo old (Ok None) last new = Moves old new
StepsTo old (Ok (Some found)) last new = Gives old (captured found last) new × (found.start + found.len ≤ length last)
StepsTo old (Err e) last new = (new ≡ old) × Stops old e

-- the answer, where a packet's block is this
abbrev pub told_by : Result (Option Found) NgError → List ℕ → Result (Option Captured) NgError
told_by (Ok (Some found)) block = Ok (Some (captured found block))
told_by (Ok None) block = Ok None
told_by (Err e) block = Err e

-- the packet's bytes are there
abbrev pub IsThere : Result (Option Found) NgError → List ℕ → Type 0
IsThere (Ok (Some found)) block = found.start + found.len ≤ length block
IsThere (Ok None) block = Unit {0}
IsThere (Err e) block = Unit {0}

-- A file that ends behind these bytes ends so, where they hold no packet and no other damage.
abbrev pub EndsAs : Order → ℕ → List ℕ → Result (Unit {0}) NgError → Type 0
EndsAs order begin bytes result = (section : Section) → section.order ≡ order
    → first (λ e. is_truncated e.kind) (records_from section begin bytes) ≡ Ok None
    → records_from section begin bytes ≡ record { items = []; damage = result_err result }
