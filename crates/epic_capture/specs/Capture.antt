-- The classic form of a capture: a header of 24 bytes, then records of a header of 16 bytes and the captured bytes.
use Rattle.std.specs.Prelude.{ℕ, zero, suc, ◌+◌, ◌==◌, nat_lt, Bool, not, ◌||◌, ◌&&◌, if◌then◌else◌, List, length, drop, take, Option, Some, None, Result, Ok, Err}
use Rattle.epic_num.specs.declared.passed.Place.{Place}
use Rattle.epic_capture.specs.declared.damage.CaptureError.{CaptureError}
use Rattle.epic_capture.specs.declared.damage.CaptureKind.{CaptureKind}
use Rattle.epic_capture.specs.declared.damage.CaptureKind.TheVariants.{Truncated, Magic, VersionNumber, LinkType, Fraction, RecordTooLong, PseudoHeader, TooMany, TooLong}
use Rattle.epic_capture.specs.declared.format.Format.{Format}
use Rattle.epic_capture.specs.declared.format.TimeUnit.TheVariants.{Microseconds, Nanoseconds}
use Rattle.epic_capture.specs.declared.numbers.Order.TheVariants.{Little, Big}
use Rattle.epic_capture.specs.declared.found.Found.{Found}
use Rattle.epic_capture.specs.Numbers.{number}
use Rattle.epic_capture.specs.Moments.{moment_of, most_fraction}
use Rattle.epic_capture.specs.PseudoHeader.{place_of}
use Rattle.epic_capture.specs.Records.{Captured, Records, whole, damaged, with_record}

abbrev pub damage : CaptureKind → ℕ → CaptureError
damage kind offset = record { kind = kind; offset = offset }

-- the magic number a1b2c3d4 means microseconds, a1b23c4d nanoseconds; the order in which it stands is that of all numbers
unfoldable pub format_of : List ℕ → Option Format
format_of bytes =
    if number Little 4 bytes == 2712847316 then Some (record { order = Little; unit = Microseconds })
    else if number Little 4 bytes == 2712812621 then Some (record { order = Little; unit = Nanoseconds })
    else if number Big 4 bytes == 2712847316 then Some (record { order = Big; unit = Microseconds })
    else if number Big 4 bytes == 2712812621 then Some (record { order = Big; unit = Nanoseconds })
    else None

-- the version is 2.4, the link type 147; zone, accuracy and snapshot length are read by nobody
unfoldable pub checked : Format → List ℕ → Result Format CaptureError
checked format bytes =
    if not (number format.order 2 (drop 4 bytes) == 2) || not (number format.order 2 (drop 6 bytes) == 4)
    then Err (damage VersionNumber 4)
    else if not (number format.order 4 (drop 20 bytes) == 147) then Err (damage LinkType 20)
    else Ok format

abbrev pub of_format : Option Format → List ℕ → Result Format CaptureError
of_format None bytes = Err (damage Magic 0)
of_format (Some format) bytes = checked format bytes

-- the file's header at the front of a whole file, or its first damage
unfoldable pub head : List ℕ → Result Format CaptureError
head bytes = if nat_lt (length bytes) 24 then Err (damage Truncated 0) else of_format (format_of bytes) bytes

-- what ends at `end` passes the greatest length of a capture, in a file that does
abbrev pub passes : ℕ → ℕ → Bool
passes end file = nat_lt 67108864 end && nat_lt 67108864 file

-- the record whose header and captured bytes stand at the front of the bytes from `begin` on
abbrev pub of_place : ℕ → ℕ → ℕ → Option Place → Result Found CaptureError
of_place begin moment len None = Err (damage PseudoHeader (begin + 16))
of_place begin moment len (Some place) = Ok (record { moment = moment; place = place; len = len })

unfoldable pub record_of : Format → ℕ → List ℕ → Result Found CaptureError
record_of format begin bytes =
    of_place begin
    (moment_of format.unit (number format.order 4 bytes) (number format.order 4 (drop 4 bytes)))
    (16 + number format.order 4 (drop 8 bytes))
    (place_of (drop 16 bytes))

-- The damages of a record that begins at `begin`, in their order, and else the record. From there on the file has `len`
-- bytes; `left` records may still come; the header gives the fraction and the captured length.
unfoldable pub judged : ℕ → ℕ → ℕ → ℕ → ℕ → ℕ → Result Found CaptureError → Result Found CaptureError
judged left begin len most fraction captured found =
    if len == 0 then Err (damage Truncated begin)
    else if left == 0 then Err (damage TooMany begin)
    else if passes (begin + 16) (begin + len) then Err (damage TooLong 67108864)
    else if nat_lt len 16 then Err (damage Truncated begin)
    else if nat_lt most fraction then Err (damage Fraction (begin + 4))
    else if nat_lt 16384 captured then Err (damage RecordTooLong (begin + 8))
    else if nat_lt captured 16 then Err (damage PseudoHeader (begin + 8))
    else if passes (begin + 16 + captured) (begin + len) then Err (damage TooLong 67108864)
    else if nat_lt len (16 + captured) then Err (damage Truncated begin)
    else found

-- the record at the front of the bytes from `begin` to the file's end, or its first damage
unfoldable pub found_at : Format → ℕ → ℕ → List ℕ → Result Found CaptureError
found_at format left begin bytes =
    judged left begin (length bytes) (most_fraction format.unit) (number format.order 4 (drop 4 bytes))
    (number format.order 4 (drop 8 bytes)) (record_of format begin bytes)

-- what a record says, whose bytes these are
abbrev pub captured : Found → List ℕ → Captured
captured found bytes = record { moment = found.moment; place = found.place; bytes = drop 32 bytes }

abbrev pub after_found : ℕ → List ℕ → Result Found CaptureError → (ℕ → List ℕ → Records CaptureError) → Records CaptureError
after_found begin bytes (Err e) more = damaged e
after_found begin bytes (Ok found) more =
    with_record (captured found (take found.len bytes)) (more (begin + found.len) (drop found.len bytes))

-- the records from `begin` to the file's end, of which `left` may still come
unfoldable pub records_from : ℕ → Format → ℕ → List ℕ → Records CaptureError
records_from zero format begin bytes = if length bytes == 0 then whole else damaged (damage TooMany begin)
records_from (suc left) format begin bytes =
    if length bytes == 0 then whole
    else after_found begin bytes (found_at format (suc left) begin bytes) (λ next rest. records_from left format next rest)

-- how many records a capture has at most
unfoldable pub most_records : ℕ
most_records = 262144

abbrev pub after_head : List ℕ → Result Format CaptureError → Records CaptureError
after_head bytes (Err e) = damaged e
after_head bytes (Ok format) = records_from most_records format 24 (drop 24 bytes)

-- the records of a whole file up to its first damage, and that damage
unfoldable pub records : List ℕ → Records CaptureError
records bytes = after_head bytes (head bytes)
