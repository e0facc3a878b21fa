-- The pseudo-header before a captured packet: AS in 8 bytes, kind, a zero byte, interface in 2 bytes, host in 4, all
-- big-endian. Kind 0 is a router, where the host is 0; kind 1 is a host, where the interface is 0.
use Rattle.std.specs.Prelude.{ℕ, ◌==◌, not, ◌&&◌, if◌then◌else◌, List, drop, slice_index, Option, Some, None}
use Rattle.byteorder.specs.Endian.{big_number}
use Rattle.epic_num.specs.declared.passed.Place.{Place}
use Rattle.epic_num.specs.declared.passed.Place.TheVariants.{Router, Host}

-- by the AS, the kind, the zero byte, the interface and the host
abbrev pub place_by : ℕ → ℕ → ℕ → ℕ → ℕ → Option Place
place_by asn kind empty iface host =
    if not (empty == 0) then None
    else if kind == 0 && host == 0 then Some (Router (record { 0 = asn }) iface)
    else if kind == 1 && iface == 0 then Some (Host (record { asn = record { 0 = asn }; host = host }))
    else None

unfoldable pub place_of : List ℕ → Option Place
place_of bytes =
    place_by (big_number 8 bytes) (slice_index bytes 8) (slice_index bytes 9) (big_number 2 (drop 10 bytes))
    (big_number 4 (drop 12 bytes))
