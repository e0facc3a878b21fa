-- A saved capture: little-endian, in microseconds, of link type 147.
use Rattle.std.specs.Prelude.{ℕ, ◌+◌, ◌/◌, ◌%◌, ◌^◌, ◌<◌, ◌≤◌, ◌≡◌, List, [], ◌∷◌, ◌++◌, length, None}
use Rattle.std.specs.List.{flat_map, AllByRecursion}
use Rattle.byteorder.specs.Endian.{big_bytes, little_bytes}
use Rattle.epic_num.specs.declared.passed.Place.{Place}
use Rattle.epic_num.specs.declared.passed.Place.TheVariants.{Router, Host}
use Rattle.epic_capture.specs.Records.{Captured}
use Rattle.epic_capture.specs.Capture.{most_records, records}

-- magic, version 2.4, zone and accuracy 0, snapshot length 65,535, link type 147
unfoldable pub file_head : List ℕ
file_head =
    little_bytes 4 2712847316 ++ little_bytes 2 2 ++ little_bytes 2 4 ++ little_bytes 4 0 ++ little_bytes 4 0
    ++ little_bytes 4 65535 ++ little_bytes 4 147

-- AS, kind, zero, interface, host
abbrev pub pseudo_header : Place → List ℕ
pseudo_header (Router asn iface) = big_bytes 8 asn.0 ++ (0 ∷ 0 ∷ []) ++ big_bytes 2 iface ++ big_bytes 4 0
pseudo_header (Host host) = big_bytes 8 host.asn.0 ++ (1 ∷ 0 ∷ []) ++ big_bytes 2 0 ++ big_bytes 4 host.host

-- seconds, microseconds, the captured length twice, the pseudo-header
unfoldable pub record_head : ℕ → Place → ℕ → List ℕ
record_head moment place len =
    little_bytes 4 (moment / 1000000) ++ little_bytes 4 (moment % 1000000) ++ little_bytes 4 (16 + len)
    ++ little_bytes 4 (16 + len) ++ pseudo_header place

-- a record of a saved capture
abbrev pub saved_record : Captured → List ℕ
saved_record x = record_head x.moment x.place (length x.bytes) ++ x.bytes

-- a saved capture of these records
abbrev pub saved : List Captured → List ℕ
saved xs = file_head ++ flat_map saved_record xs

-- a place whose numbers fit their types
abbrev pub IsPlace : Place → Type 0
IsPlace (Router asn iface) = (asn.0 < 2 ^ 64) × (iface < 2 ^ 16)
IsPlace (Host host) = (host.asn.0 < 2 ^ 64) × (host.host < 2 ^ 32)

-- a record that can be saved
pub record IsSaved (x : Captured) : Type 0 where
  pub moment : x.moment ≤ 4294967295999999
  pub place : IsPlace x.place
  pub len : length x.bytes ≤ 16368

-- a saved capture reads back
abbrev pub ReadsBack : List Captured → Type 0
ReadsBack xs = AllByRecursion IsSaved xs → length xs ≤ most_records → length (saved xs) ≤ 67108864
    → records (saved xs) ≡ record { items = xs; damage = None }
