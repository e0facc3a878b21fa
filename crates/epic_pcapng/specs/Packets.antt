-- The packet of a block, of the enhanced or the simple type.
use Rattle.std.specs.Prelude.{ℕ, ◌+◌, ◌-◌, ◌*◌, ◌/◌, ◌^◌, ◌==◌, nat_lt, nat_le, ◌||◌, if◌then◌else◌, List, length, drop, slice_get, Option, Some, None, is_none, Result, Ok, Err}
use Rattle.epic_num.specs.declared.passed.Place.{Place}
use Rattle.epic_capture.specs.Numbers.{number}
use Rattle.epic_capture.specs.PseudoHeader.{place_of}
use Rattle.epic_pcapng.specs.declared.damage.NgError.{NgError}
use Rattle.epic_pcapng.specs.declared.damage.NgKind.TheVariants as kinds
use Rattle.epic_pcapng.specs.declared.interfaces.Interface.{Interface}
use Rattle.epic_pcapng.specs.declared.packet.Found.{Found}
use Rattle.epic_pcapng.specs.declared.packet.Packet.{Packet}
use Rattle.epic_pcapng.specs.declared.section.Section.{Section}
use Rattle.epic_pcapng.specs.Damage.{damage}

-- the moment in microseconds of a time in units, rounded down
abbrev pub moment_of : ℕ → ℕ → ℕ → ℕ
moment_of high low units = (high * 2 ^ 32 + low) * 1000000 / units

abbrev pub moment_in : Option Interface → ℕ → ℕ → ℕ
moment_in None high low = 0
moment_in (Some interface) high low = moment_of high low interface.units

-- an enhanced packet: interface, upper and lower half of the time, captured and original length, bytes
unfoldable pub enhanced : Section → List ℕ → Packet
enhanced section block =
    let interface = slice_get section.interfaces (number section.order 4 (drop 8 block)) in
    record {
      missing = is_none interface;
      interface_at = 8;
      captured = number section.order 4 (drop 20 block);
      captured_at = 20;
      bytes_at = 28;
      moment = moment_in interface (number section.order 4 (drop 12 block)) (number section.order 4 (drop 16 block));
    }

-- how much of a simple packet was captured: no more than the interface's limit, where there is one
abbrev pub captured_in : Option Interface → ℕ → ℕ
captured_in None original = original
captured_in (Some interface) original =
    if interface.snaplen == 0 || nat_le original interface.snaplen then original else interface.snaplen

-- a simple packet: original length, bytes; it is of interface 0 and has the moment 0
unfoldable pub simple : Section → List ℕ → Packet
simple section block =
    let interface = slice_get section.interfaces 0 in
    record {
      missing = is_none interface;
      interface_at = 0;
      captured = captured_in interface (number section.order 4 (drop 8 block));
      captured_at = 8;
      bytes_at = 12;
      moment = 0;
    }

abbrev pub of_place : ℕ → Packet → Option Place → Result Found NgError
of_place begin packet None = Err (damage kinds.PseudoHeader (begin + packet.bytes_at))
of_place begin packet (Some place) =
    Ok (record { moment = packet.moment; place = place; start = packet.bytes_at + 16; len = packet.captured - 16 })

-- The packet of a whole block at `begin`, or its first damage. `left` packets may still come.
unfoldable pub packet_at : ℕ → ℕ → Packet → List ℕ → Result Found NgError
packet_at left begin packet block =
    if left == 0 then Err (damage kinds.TooMany begin)
    else if packet.missing then Err (damage kinds.Interface (begin + packet.interface_at))
    else if nat_lt 16384 packet.captured then Err (damage kinds.RecordTooLong (begin + packet.captured_at))
    else if nat_lt (length block) (packet.bytes_at + packet.captured + 4) then Err (damage kinds.BlockLength (begin + 4))
    else if nat_lt packet.captured 16 then Err (damage kinds.PseudoHeader (begin + packet.captured_at))
    else if nat_lt 4294967295999999 packet.moment then Err (damage kinds.Moment (begin + 12))
    else of_place begin packet (place_of (drop packet.bytes_at block))
