-- What was saved is read again.
use Rattle.std.proofs.Common.{◌≡◌, ℕ, ◌+◌, ◌-◌, ◌*◌, ◌/◌, ◌%◌, ◌<◌, ◌≤◌, false, ltb, List, [], ◌∷◌, ◌++◌, length, take, drop, Some, None, Result, Ok, refl, ap, sym, ◌∙◌, append_assoc, length-append, arith}
use Rattle.std.specs.List.{flat_map, AllByRecursion}
use Rattle.std.proofs.Math.Seq.{take-append_seam, drop-append_seam}
use Rattle.std.proofs.lemmas.Bool.Decides.{nat_tests}
use Rattle.byteorder.specs.Endian.{big_bytes, big_number, little_bytes}
use Rattle.byteorder.specs.Numbers.{big_number-reads_back, little_number-reads_back}
use Rattle.epic_num.specs.declared.passed.Place.{Place}
use Rattle.epic_num.specs.declared.passed.Place.TheVariants.{Router, Host}
use Rattle.epic_capture.specs.declared.damage.CaptureError.{CaptureError}
use Rattle.epic_capture.specs.declared.format.Format.{Format}
use Rattle.epic_capture.specs.declared.format.TimeUnit.TheVariants.{Microseconds}
use Rattle.epic_capture.specs.declared.found.Found.{Found}
use Rattle.epic_capture.specs.declared.numbers.Order.TheVariants.{Little}
use Rattle.epic_capture.specs.Numbers.{number}
use Rattle.epic_capture.specs.PseudoHeader.{place_of, place_by}
use Rattle.epic_capture.specs.Records.{Captured, with_record}
use Rattle.epic_capture.specs.Capture.{format_of, checked, head, of_place, record_of, judged, found_at, captured, records_from, most_records, records}
use Rattle.epic_capture.specs.Saving.{file_head, pseudo_header, record_head, saved_record, IsPlace, IsSaved, ReadsBack}
use Rattle.epic_capture.proofs.ToCome.{records_none, records_record}

-- the format of a saved capture
abbrev saved_format : Format
saved_format = record { order = Little; unit = Microseconds }

saved_head : (rest : List ℕ) → head (file_head ++ rest) ≡ Ok saved_format
unfolding head format_of checked file_head
saved_head rest =
    let long : ltb (length (file_head ++ rest)) 24 ≡ false = grind (arith, nat_tests) in
    rw long refl

-- a pseudo-header names its place
named : (place : Place) (rest : List ℕ) → IsPlace place → place_of (pseudo_header place ++ rest) ≡ Some place
unfolding place_of
named (Router asn iface) rest fits =
    let as_is : big_number 8 (pseudo_header (Router asn iface) ++ rest) ≡ asn.0 =
    big_number-reads_back 8 asn.0 ((0 ∷ 0 ∷ []) ++ big_bytes 2 iface ++ big_bytes 4 0 ++ rest) fits.0 in
    let iface_is : big_number 2 (drop 10 (pseudo_header (Router asn iface) ++ rest)) ≡ iface =
    big_number-reads_back 2 iface (big_bytes 4 0 ++ rest) fits.1 in
    ap (λ (a : ℕ). place_by a 0 0 (big_number 2 (drop 10 (pseudo_header (Router asn iface) ++ rest))) 0) as_is
    ∙ ap (λ (i : ℕ). place_by asn.0 0 0 i 0) iface_is
named (Host host) rest fits =
    let as_is : big_number 8 (pseudo_header (Host host) ++ rest) ≡ host.asn.0 =
    big_number-reads_back 8 host.asn.0 ((1 ∷ 0 ∷ []) ++ big_bytes 2 0 ++ big_bytes 4 host.host ++ rest) fits.0 in
    let host_is : big_number 4 (drop 12 (pseudo_header (Host host) ++ rest)) ≡ host.host =
    big_number-reads_back 4 host.host rest fits.1 in
    ap (λ (a : ℕ). place_by a 1 0 0 (big_number 4 (drop 12 (pseudo_header (Host host) ++ rest)))) as_is
    ∙ ap (λ (h : ℕ). place_by host.asn.0 1 0 0 h) host_is

-- a record that passes all tests
judged_good : (left begin len most fraction captured : ℕ) (found : Result Found CaptureError)
    → 0 < left → 16 ≤ captured → captured ≤ 16384 → 16 + captured ≤ len → fraction ≤ most → begin + (16 + captured) ≤ 67108864
    → judged left begin len most fraction captured found ≡ found
unfolding judged
judged_good left begin len most fraction captured found some header small there less limit = grind (arith, nat_tests)

-- what is found where a record was saved
abbrev found_of : Captured → Found
found_of x = record { moment = x.moment; place = x.place; len = 16 + (16 + length x.bytes) }

saved_len : (x : Captured) → length (saved_record x) ≡ 16 + (16 + length x.bytes)
unfolding record_head
saved_len x = by x.place
  where
    by : (place : Place) → length (record_head x.moment place (length x.bytes) ++ x.bytes) ≡ 16 + (16 + length x.bytes)
    by (Router asn iface) = omega arith
    by (Host host) = omega arith

saved_packet : (x : Captured) → drop 32 (saved_record x) ≡ x.bytes
unfolding record_head
saved_packet x = by x.place
  where
    by : (place : Place) → drop 32 (record_head x.moment place (length x.bytes) ++ x.bytes) ≡ x.bytes
    by (Router asn iface) = refl
    by (Host host) = refl

saved_found : (left begin : ℕ) (x : Captured) (rest : List ℕ) → IsSaved x → 0 < left → begin + (16 + (16 + length x.bytes)) ≤ 67108864
    → found_at saved_format left begin (saved_record x ++ rest) ≡ Ok (found_of x)
unfolding found_at record_of record_head
saved_found left begin x rest fits some limit =
    let m : ℕ = x.moment in
    let n : ℕ = 16 + length x.bytes in
    let second_part : List ℕ = little_bytes 4 n ++ little_bytes 4 n ++ pseudo_header x.place ++ x.bytes ++ rest in
    let seconds : number Little 4 (saved_record x ++ rest) ≡ m / 1000000 =
    little_number-reads_back 4 (m / 1000000) (little_bytes 4 (m % 1000000) ++ second_part) (omega (arith, fits.moment)) in
    let fraction : number Little 4 (drop 4 (saved_record x ++ rest)) ≡ m % 1000000 =
    little_number-reads_back 4 (m % 1000000) second_part (omega arith) in
    let size : number Little 4 (drop 8 (saved_record x ++ rest)) ≡ n =
    little_number-reads_back 4 n (little_bytes 4 n ++ pseudo_header x.place ++ x.bytes ++ rest) (omega (arith, fits.len)) in
    let place : place_of (drop 16 (saved_record x ++ rest)) ≡ Some x.place =
    ap place_of (append_assoc (pseudo_header x.place) x.bytes rest) ∙ named x.place (x.bytes ++ rest) fits.place in
    let moment : m / 1000000 * 1000000 + m % 1000000 ≡ m = omega arith in
    let len : length (saved_record x ++ rest) ≡ length (saved_record x) + length rest = length-append (saved_record x) rest in
    let long : 16 + n ≤ length (saved_record x ++ rest) = omega (arith, len, saved_len x) in
    let found : of_place begin (number Little 4 (saved_record x ++ rest) * 1000000 + number Little 4 (drop 4 (saved_record x ++ rest)))
    (16 + number Little 4 (drop 8 (saved_record x ++ rest))) (place_of (drop 16 (saved_record x ++ rest))) ≡ Ok (found_of x)
    = rw (place, seconds, fraction, size, moment) refl in
    judged_good left begin (length (saved_record x ++ rest)) 999999 (number Little 4 (drop 4 (saved_record x ++ rest)))
    (number Little 4 (drop 8 (saved_record x ++ rest))) _ some (omega (arith, size)) (omega (arith, size, fits.len)) (omega (arith, size, long))
    (omega (arith, fraction)) (omega (arith, size, limit))
    ∙ found

-- the records of saved records
saved_from : (xs : List Captured) (left begin : ℕ) → AllByRecursion IsSaved xs → length xs ≤ left → begin + length (flat_map saved_record xs) ≤ 67108864
    → records_from left saved_format begin (flat_map saved_record xs) ≡ record { items = xs; damage = None }
saved_from [] left begin fit few limit = records_none left saved_format begin [] refl
saved_from (x ∷ xs) left begin fit few limit =
    let rest : List ℕ = flat_map saved_record xs in
    let n : ℕ = 16 + (16 + length x.bytes) in
    let len : length (saved_record x ++ rest) ≡ length (saved_record x) + length rest = length-append (saved_record x) rest in
    let size : n ≡ length (saved_record x) = sym (saved_len x) in
    let found = saved_found left begin x rest fit.0 (omega arith) (omega (arith, len, size, limit)) in
    let front : take n (saved_record x ++ rest) ≡ saved_record x = ap (λ (k : ℕ). take k (saved_record x ++ rest)) size ∙ take-append_seam (saved_record x) rest in
    let behind : drop n (saved_record x ++ rest) ≡ rest = ap (λ (k : ℕ). drop k (saved_record x ++ rest)) size ∙ drop-append_seam (saved_record x) rest in
    let packet : drop 32 (take n (saved_record x ++ rest)) ≡ x.bytes = ap (drop 32) front ∙ saved_packet x in
    let others = saved_from xs (left - 1) (begin + n) fit.1 (omega arith) (omega (arith, len, size, limit)) in
    let head_is : with_record (captured (found_of x) (take n (saved_record x ++ rest))) (records_from (left - 1) saved_format (begin + n) (drop n (saved_record x ++ rest)))
    ≡ with_record x (records_from (left - 1) saved_format (begin + n) (drop n (saved_record x ++ rest)))
    = ap (λ (bytes : List ℕ). with_record (record { moment = x.moment; place = x.place; bytes = bytes }) (records_from (left - 1) saved_format (begin + n) (drop n (saved_record x ++ rest)))) packet in
    records_record left saved_format begin (saved_record x ++ rest) (found_of x) found
    ∙ head_is
    ∙ ap (λ (bytes : List ℕ). with_record x (records_from (left - 1) saved_format (begin + n) bytes)) behind
    ∙ ap (with_record x) others

pub saved_again : (xs : List Captured) → ReadsBack xs
unfolding records file_head
saved_again xs fit few limit =
    let rest : List ℕ = flat_map saved_record xs in
    let behind = saved_from xs most_records 24 fit few (omega arith) in
    rw (saved_head rest) behind
