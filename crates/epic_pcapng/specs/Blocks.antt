-- A block: type and total length in 4 bytes each, content, total length again.
use Rattle.std.specs.Prelude.{ℕ, ◌+◌, ◌-◌, ◌%◌, ◌==◌, nat_lt, not, if◌then◌else◌, List, length, drop, Option, Some, None, Result, Ok, Err}
use Rattle.epic_capture.specs.declared.numbers.Order.{Order}
use Rattle.epic_capture.specs.declared.numbers.Order.TheVariants.{Little, Big}
use Rattle.epic_capture.specs.Numbers.{number}
use Rattle.epic_capture.specs.Capture.{passes}
use Rattle.epic_pcapng.specs.declared.block.Kind.{Kind}
use Rattle.epic_pcapng.specs.declared.block.Kind.TheVariants.{Section, Interface, Simple, Enhanced, Other}
use Rattle.epic_pcapng.specs.declared.block.Head.{Head}
use Rattle.epic_pcapng.specs.declared.damage.NgError.{NgError}
use Rattle.epic_pcapng.specs.declared.damage.NgKind.TheVariants.{Truncated, ByteOrder, BlockLength, BlockTooLong, TooLong}
use Rattle.epic_pcapng.specs.Damage.{damage}

-- how many bytes a block has at least
abbrev pub least : Kind → ℕ
least Section = 28
least Interface = 20
least Simple = 16
least Enhanced = 32
least Other = 12

-- how many it has at most: 65,536 where it is read, any number of 32 bits where it is skipped
abbrev pub most : Kind → ℕ
most Section = 65536
most Interface = 65536
most Simple = 65536
most Enhanced = 65536
most Other = 4294967295

-- types 1, 3 and 6 are read, all others but a section header are skipped
abbrev pub kind_of : ℕ → Kind
kind_of kind = if kind == 1 then Interface else if kind == 3 then Simple else if kind == 6 then Enhanced else Other

-- a section's magic number 1a2b3c4d tells the order of its numbers
unfoldable pub order_of : List ℕ → Option Order
order_of bytes =
    if number Little 4 bytes == 439041101 then Some Little
    else if number Big 4 bytes == 439041101 then Some Big
    else None

-- the head of a block at `begin` whose length is a multiple of 4 and neither too small nor too great
unfoldable pub checked : ℕ → Kind → Order → ℕ → Result Head NgError
checked begin kind order len =
    if not (len % 4 == 0) then Err (damage BlockLength (begin + 4))
    else if nat_lt len (least kind) then Err (damage BlockLength (begin + 4))
    else if nat_lt (most kind) len then Err (damage BlockTooLong (begin + 4))
    else Ok (record { kind = kind; order = order; len = len })

abbrev pub of_order : ℕ → List ℕ → Option Order → Result Head NgError
of_order begin bytes None = Err (damage ByteOrder (begin + 8))
of_order begin bytes (Some order) = checked begin Section order (number order 4 (drop 4 bytes))

-- What is found in the first `size` bytes from `begin` on, of which the file has `len`. Where they aren't all there, the file
-- ends too early, or it is too long.
unfoldable pub front : {A : Type 0} → ℕ → ℕ → ℕ → Result A NgError → Result A NgError
front size begin len found =
    if passes (begin + size) (begin + len) then Err (damage TooLong 67108864)
    else if nat_lt len size then Err (damage Truncated begin)
    else found

-- the head of a section header, of whose bytes the first 8 are there
unfoldable pub section_heading : ℕ → List ℕ → Result Head NgError
section_heading begin bytes = front 12 begin (length bytes) (of_order begin bytes (order_of (drop 8 bytes)))

-- The head of the block at `begin`, from which on the file has these bytes, or its first damage. A section header's type
-- 0a0d0d0a reads the same in both orders.
unfoldable pub heading : Order → ℕ → List ℕ → Result Head NgError
heading order begin bytes = front 8 begin (length bytes)
    (if number order 4 bytes == 168627466 then section_heading begin bytes
    else checked begin (kind_of (number order 4 bytes)) order (number order 4 (drop 4 bytes)))

-- The end of a block of `len` bytes at `begin`, of which `gone` bytes came before these: it is there, and the second length is
-- the first.
unfoldable pub ends : Order → ℕ → ℕ → ℕ → List ℕ → Result (Unit {0}) NgError
ends order begin len gone bytes = front len begin (gone + length bytes)
    (if not (number order 4 (drop (len - 4 - gone) bytes) == len) then Err (damage BlockLength (begin + len - 4)) else Ok tt)
