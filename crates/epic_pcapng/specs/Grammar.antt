-- Whole captures in the form of pcapng, block by block.
use Rattle.std.specs.Prelude.{ℕ, zero, suc, ◌+◌, ◌-◌, ◌==◌, nat_le, not, if◌then◌else◌, List, [], ◌∷◌, ◌++◌, length, drop, take, Option, Some, None, Result, Ok, Err}
use Rattle.epic_capture.specs.declared.numbers.Order.TheVariants.{Little}
use Rattle.epic_capture.specs.Numbers.{number}
use Rattle.epic_capture.specs.Records.{Captured, Records, whole, damaged, with_record}
use Rattle.epic_pcapng.specs.declared.block.Head.{Head}
use Rattle.epic_pcapng.specs.declared.block.Kind.{Kind}
use Rattle.epic_pcapng.specs.declared.block.Kind.TheVariants as types
use Rattle.epic_pcapng.specs.declared.damage.NgError.{NgError}
use Rattle.epic_pcapng.specs.declared.damage.NgKind.TheVariants as kinds
use Rattle.epic_pcapng.specs.declared.options.Resolved.{Resolved}
use Rattle.epic_pcapng.specs.declared.packet.Found.{Found}
use Rattle.epic_pcapng.specs.declared.section.Section.{Section}
use Rattle.epic_pcapng.specs.Damage.{damage}
use Rattle.epic_pcapng.specs.Blocks.{heading, ends}
use Rattle.epic_pcapng.specs.Options.{options, units_of}
use Rattle.epic_pcapng.specs.Packets.{enhanced, simple, packet_at}

-- what is known behind a block, and its record where it has one
pub record Step : Type 0 where
  pub section : Section
  pub item : Option Captured

-- a section header: its first version number is 1; it empties the list of interfaces
abbrev pub section_of : Section → ℕ → Head → List ℕ → Result Section NgError
section_of section begin head block =
    if not (number head.order 2 (drop 12 block) == 1) then Err (damage kinds.VersionNumber (begin + 12))
    else Ok (record { order = head.order; interfaces = []; left = section.left })

-- one interface more, of 1,024 at most
abbrev pub with_units : Section → ℕ → List ℕ → Result ℕ NgError → Result Section NgError
with_units section begin block (Err e) = Err e
with_units section begin block (Ok units) =
    if nat_le 1024 (length section.interfaces) then Err (damage kinds.TooMany begin)
    else Ok (record {
      order = section.order;
      interfaces = section.interfaces ++ (record { units = units; snaplen = number section.order 4 (drop 12 block) } ∷ []);
      left = section.left;
    })

abbrev pub with_options : Section → ℕ → List ℕ → Result (Option Resolved) NgError → Result Section NgError
with_options section begin block (Err e) = Err e
with_options section begin block (Ok resolved) = with_units section begin block (units_of resolved)

-- an interface: link type 147, two bytes that nobody reads, snapshot length, options
abbrev pub interface_of : Section → ℕ → List ℕ → Result Section NgError
interface_of section begin block =
    if not (number section.order 2 (drop 8 block) == 147) then Err (damage kinds.LinkType (begin + 8))
    else with_options section begin block
    (options section.order (begin + 16) (take (length block - 4 - 16) (drop 16 block)))

abbrev pub without_record : Result Section NgError → Result Step NgError
without_record (Err e) = Err e
without_record (Ok section) = Ok (record { section = section; item = None })

-- the record of a packet, whose block this is
abbrev pub captured : Found → List ℕ → Captured
captured found block = record { moment = found.moment; place = found.place; bytes = take found.len (drop found.start block) }

abbrev pub with_packet : Section → List ℕ → Result Found NgError → Result Step NgError
with_packet section block (Err e) = Err e
with_packet section block (Ok found) = Ok (record {
  section = record { order = section.order; interfaces = section.interfaces; left = section.left - 1 };
  item = Some (captured found block);
})

-- what a whole block at `begin` says
abbrev pub content_by : Kind → Section → ℕ → Head → List ℕ → Result Step NgError
content_by types.Section section begin head block = without_record (section_of section begin head block)
content_by types.Interface section begin head block = without_record (interface_of section begin block)
content_by types.Simple section begin head block = with_packet section block (packet_at section.left begin (simple section block) block)
content_by types.Enhanced section begin head block = with_packet section block (packet_at section.left begin (enhanced section block) block)
content_by types.Other section begin head block = without_record (Ok section)

unfoldable pub content : Section → ℕ → Head → List ℕ → Result Step NgError
content section begin head block = content_by head.kind section begin head block

-- a block at the front of the bytes: how many it has, and what it says
pub record Block : Type 0 where
  pub len : ℕ
  pub step : Step

abbrev pub of_content : ℕ → Result Step NgError → Result Block NgError
of_content len (Err e) = Err e
of_content len (Ok step) = Ok (record { len = len; step = step })

abbrev pub of_end : Section → ℕ → Head → List ℕ → Result (Unit {0}) NgError → Result Block NgError
of_end section begin head bytes (Err e) = Err e
of_end section begin head bytes (Ok done) = of_content head.len (content section begin head (take head.len bytes))

abbrev pub of_heading : Section → ℕ → List ℕ → Result Head NgError → Result Block NgError
of_heading section begin bytes (Err e) = Err e
of_heading section begin bytes (Ok head) = of_end section begin head bytes (ends head.order begin head.len 0 bytes)

-- the block at the front of the bytes from `begin` to the file's end, or its first damage
unfoldable pub block_at : Section → ℕ → List ℕ → Result Block NgError
block_at section begin bytes = of_heading section begin bytes (heading section.order begin bytes)

abbrev pub with_item : Option Captured → Records NgError → Records NgError
with_item None more = more
with_item (Some x) more = with_record x more

abbrev pub after_block : ℕ → List ℕ → Result Block NgError → (Section → ℕ → List ℕ → Records NgError) → Records NgError
after_block begin bytes (Err e) more = damaged e
after_block begin bytes (Ok block) more =
    with_item block.step.item (more block.step.section (begin + block.len) (drop block.len bytes))

-- the records of at most so many blocks
unfoldable pub records_to : ℕ → Section → ℕ → List ℕ → Records NgError
records_to zero section begin bytes = whole
records_to (suc most) section begin bytes =
    if length bytes == 0 then whole
    else after_block begin bytes (block_at section begin bytes) (λ section begin bytes. records_to most section begin bytes)

-- the records from `begin` to the file's end; there are no more blocks than bytes
abbrev pub records_from : Section → ℕ → List ℕ → Records NgError
records_from section begin bytes = records_to (length bytes) section begin bytes

-- before the first section header numbers are little-endian; 262,144 packets may come
unfoldable pub first_section : Section
first_section = record { order = Little; interfaces = []; left = 262144 }

-- the records of a whole file up to its first damage, and that damage
unfoldable pub ngrecords : List ℕ → Records NgError
ngrecords bytes = records_from first_section 0 bytes
