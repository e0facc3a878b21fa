-- The records of emissions in a capture: each fits, and they come one after the other.
use Rattle.std.proofs.Common.{◌≡◌, ◌⊎◌, ℕ, ◌+◌, ◌<◌, ◌≤◌, All, List, ◌∷◌, ◌++◌, length, map, drop, flat_map, get_or, slice_get, Some, None, inl, inr, sym, ap, subst, ◌∙◌, add-one, arith}
use Rattle.std.proofs.lemmas.List.{drop_more, length-drop}
use Rattle.std.proofs.lemmas.List.Concat.{flat_map-cons}
use Rattle.std.proofs.lemmas.List.Elements.{All-get_or}
use Rattle.std.proofs.lemmas.Option.{get_or_from_slice_get, slice_get_cases, slice_get_within}
use Rattle.epic_capture.specs.Saving.{saved_record}
use Rattle.epic_layout.specs.Contents.{IsPacket, header_len}
use Rattle.epic_layout.specs.Layout.{header_len_in, parse}
use Rattle.epic_layout.proofs.Faultless.{header_len_most}
use Rattle.epic_layout.proofs.Shapes.{header_len_parse}
use Rattle.epic_ledger.specs.History.{Emission, emission_at}
use Rattle.epic_ledger.specs.Lawful.{IsEmission}
use Rattle.epic_ledger.proofs.Growing.{emission_at-suc}
use Rattle.epic_app.specs.Saved.{as_captured}

-- a packet has 704 bytes of header and 8,192 of payload at most
pub few_bytes : (bytes : List ℕ) → IsPacket (parse bytes) → length bytes ≤ 16368
unfolding parse
few_bytes bytes packet =
    let header = header_len_most (parse bytes) packet in
    let same : header_len (parse bytes) ≡ header_len_in bytes = header_len_parse bytes in
    let payload : length (drop (header_len_in bytes) bytes) ≤ 8192 = packet.payload in
    omega (arith, header, same, payload, length-drop (header_len_in bytes) bytes)

-- the emission of the next number stands at a place from 0
at_place : (es : List Emission) (n : ℕ) (e : Emission) → emission_at es (n + 1) ≡ Some e → slice_get es n ≡ Some e
at_place es n e is = sym (ap (emission_at es) (add-one n) ∙ emission_at-suc es n) ∙ is

-- each number up to the count has an emission
pub emission_missing : (es : List Emission) (n : ℕ) → n < length es → emission_at es (n + 1) ≡ None → ⊥
emission_missing es n within none = by (slice_get_cases es n).1
  where
    gone : slice_get es n ≡ None
    gone = sym (ap (emission_at es) (add-one n) ∙ emission_at-suc es n) ∙ none

    by : ((x : Emission) × (n < length es) × (slice_get es n ≡ Some x) × (get_or es n x ≡ x)) ⊎ ((length es ≤ n) × (slice_get es n ≡ None)) → ⊥
    by (inl (x, inside, is, same)) = absurd (cc (is, gone))
    by (inr (past, is)) = absurd (omega (arith, within, past))

-- the bytes of each emission fit a record
pub few_emitted : (es : List Emission) (n : ℕ) (e : Emission) → All IsEmission es → emission_at es (n + 1) ≡ Some e → length e.bytes ≤ 16368
few_emitted es n e packets is =
    let there = at_place es n e is in
    let packet : IsEmission e = subst IsEmission (get_or_from_slice_get es n e e there) (All-get_or IsEmission es n e (slice_get_within es n e there) packets) in
    few_bytes e.bytes packet.packet

-- the records of the emissions from a place on
abbrev pub records_from : ℕ → List Emission → ℕ → List ℕ
records_from moment es n = flat_map saved_record (map (as_captured moment) (drop n es))

-- are that of the emission there, and those of the emissions behind it
pub records_more : (moment : ℕ) (es : List Emission) (n : ℕ) (e : Emission) → emission_at es (n + 1) ≡ Some e
    → records_from moment es n ≡ saved_record (as_captured moment e) ++ records_from moment es (n + 1)
records_more moment es n e is =
    let there = at_place es n e is in
    ap (λ rest. flat_map saved_record (map (as_captured moment) rest))
    (drop_more es n e (slice_get_within es n e there) ∙ ap (λ x. x ∷ drop (n + 1) es) (get_or_from_slice_get es n e e there))
    ∙ flat_map-cons saved_record (as_captured moment e) (map (as_captured moment) (drop (n + 1) es))
