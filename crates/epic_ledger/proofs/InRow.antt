-- Emissions whose bytes lie in a row.
use Rattle.std.proofs.Common.{◌≡◌, ℕ, zero, suc, ◌+◌, ◌-◌, ◌≤◌, List, [], ◌∷◌, ◌++◌, length, take, drop, refl, sym, ◌∙◌, ap, arith, subst}
use Rattle.std.specs.Prelude.{None, Some, option_map, slice_get}
use Rattle.std.specs.List.{All, sum_by}
use Rattle.std.proofs.lemmas.List.{drop-append-le, take-append-le, drop_at, take_all, map-append, length-drop, length-take, length-append, length_push}
use Rattle.std.proofs.lemmas.List.Elements.{All-head, All-tail, All-append, All-cons, All-nil}
use Rattle.std.proofs.lemmas.List.Sums.{sum_by-cons, sum_by-append}
use Rattle.std.proofs.lemmas.Option.{none-some, slice_get-map, slice_get_within, get_or_from_slice_get}
use Rattle.epic_num.specs.Levels.{is_first_byte}
use Rattle.epic_layout.specs.Layout.{fault}
use Rattle.epic_ledger.specs.History.{Emission, emission_at, emitted}
use Rattle.epic_ledger.specs.Rows.{emission_in, emissions_in, IsRow}
use Rattle.epic_ledger.proofs.Growing.{emission_at-suc, emission_at-zero}
use Rattle.epic_ledger.specs.declared.emissions.Span.{Span}
use Rattle.epic_ledger.specs.declared.limits.TheConstants.{MAX_EMISSIONS, MAX_BYTES}

IsWithin : List ℕ → Span → Type 0
IsWithin row s = s.start + s.len ≤ length row

-- more bytes behind those of an emission change nothing
emission_kept : (row more : List ℕ) (s : Span) → s.start + s.len ≤ length row → emission_in (row ++ more) s ≡ emission_in row s
unfolding emission_in
emission_kept row more s h =
    let starts : s.start ≤ length row = omega arith in
    let enough : s.len ≤ length (drop s.start row) = omega (arith, length-drop s.start row) in
    let same : take s.len (drop s.start (row ++ more)) ≡ take s.len (drop s.start row) =
    ap (take s.len) (drop-append-le s.start row more starts) ∙ take-append-le s.len (drop s.start row) more enough
    in ap (λ (bytes : List ℕ). record { place = s.place; bytes = bytes }) same

pub emissions_kept : (row more : List ℕ) (spans : List Span) → All (λ s. s.start + s.len ≤ length row) spans → emissions_in (row ++ more) spans ≡ emissions_in row spans
emissions_kept row more [] h = refl
emissions_kept row more (s ∷ spans) h =
    let first : emission_in (row ++ more) s ≡ emission_in row s =
    emission_kept row more s (All-head (λ t. t.start + t.len ≤ length row) s spans h)
    in let rest : emissions_in (row ++ more) spans ≡ emissions_in row spans =
    emissions_kept row more spans (All-tail (λ t. t.start + t.len ≤ length row) s spans h)
    in ap (λ e. e ∷ emissions_in (row ++ more) spans) first ∙ ap (λ es. emission_in row s ∷ es) rest

-- the one whose bytes were added last
emission_last : (row bytes : List ℕ) (s : Span) → s.start ≡ length row → s.len ≡ length bytes → emission_in (row ++ bytes) s ≡ record { place = s.place; bytes = bytes }
unfolding emission_in
emission_last row bytes s starts long =
    let all : take s.len (drop s.start (row ++ bytes)) ≡ bytes =
    ap (take s.len) (drop_at row bytes s.start (sym starts)) ∙ take_all s.len bytes (omega arith)
    in ap (λ (b : List ℕ). record { place = s.place; bytes = b }) all

-- one more emission
pub emissions_push : (row bytes : List ℕ) (spans : List Span) (s : Span) → All (λ t. t.start + t.len ≤ length row) spans → s.start ≡ length row → s.len ≡ length bytes
    → emissions_in (row ++ bytes) (spans ++ s ∷ []) ≡ emissions_in row spans ++ record { place = s.place; bytes = bytes } ∷ []
emissions_push row bytes spans s within starts long =
    map-append (emission_in (row ++ bytes)) spans (s ∷ [])
    ∙ (ap (λ es. es ++ emission_in (row ++ bytes) s ∷ []) (emissions_kept row bytes spans within)
    ∙ ap (λ (e : Emission). emissions_in row spans ++ e ∷ []) (emission_last row bytes s starts long))

-- how many bytes they have
lengths : (row : List ℕ) (spans : List Span) → All (λ s. s.start + s.len ≤ length row) spans → emitted (emissions_in row spans) ≡ sum_by (λ s. s.len) spans
unfolding emitted emission_in
lengths row [] h = refl
lengths row (s ∷ spans) h =
    let within : s.start + s.len ≤ length row = All-head (λ t. t.start + t.len ≤ length row) s spans h in
    let one : length (take s.len (drop s.start row)) ≡ s.len =
    omega (arith, length-take s.len (drop s.start row), length-drop s.start row)
    in let rest : emitted (emissions_in row spans) ≡ sum_by (λ t. t.len) spans =
    lengths row spans (All-tail (λ t. t.start + t.len ≤ length row) s spans h)
    in sum_by-cons (λ (e : Emission). length e.bytes) (emission_in row s) (emissions_in row spans)
    ∙ (ap (λ n. n + emitted (emissions_in row spans)) one ∙ (ap (λ n. s.len + n) rest ∙ sym (sum_by-cons (λ (t : Span). t.len) s spans)))

pub emitted_whole : (row : List ℕ) (spans : List Span) → IsRow row spans → emitted (emissions_in row spans) ≡ length row
emitted_whole row spans h = lengths row spans h.within ∙ h.whole

wider : (row more : List ℕ) (spans : List Span) → All (λ s. s.start + s.len ≤ length row) spans → All (λ s. s.start + s.len ≤ length (row ++ more)) spans
wider row more spans h k d in' = let here = h k d in' in omega (arith, length-append row more)

pub row_push : (row bytes : List ℕ) (spans : List Span) (s : Span) → IsRow row spans → s.start ≡ length row → s.len ≡ length bytes
    → fault is_first_byte bytes ≡ None → length spans + 1 ≤ MAX_EMISSIONS → length row + length bytes ≤ MAX_BYTES
    → IsRow (row ++ bytes) (spans ++ s ∷ [])
row_push row bytes spans s h starts long faultless few few_bytes = record {
  packets =
      subst (All (λ (e : Emission). fault is_first_byte e.bytes ≡ None)) (sym (emissions_push row bytes spans s h.within starts long))
      (All-append (λ (e : Emission). fault is_first_byte e.bytes ≡ None) (emissions_in row spans) (record { place = s.place; bytes = bytes } ∷ []) h.packets
      (All-cons (λ (e : Emission). fault is_first_byte e.bytes ≡ None) (record { place = s.place; bytes = bytes }) [] faultless (All-nil (λ (e : Emission). fault is_first_byte e.bytes ≡ None))));
  within =
      let here : s.start + s.len ≤ length (row ++ bytes) = omega (arith, length-append row bytes) in
      All-append (λ (t : Span). t.start + t.len ≤ length (row ++ bytes)) spans (s ∷ []) (wider row bytes spans h.within)
      (All-cons (λ (t : Span). t.start + t.len ≤ length (row ++ bytes)) s [] here (All-nil (λ (t : Span). t.start + t.len ≤ length (row ++ bytes))));
  whole =
      let joined = sum_by-append (λ (t : Span). t.len) spans (s ∷ []) in
      let was = h.whole in
      let one = sum_by-cons (λ (t : Span). t.len) s [] in
      omega (arith, joined, was, one, length-append row bytes);
  few = omega (arith, length_push spans s);
  few_bytes = omega (arith, length-append row bytes);
}

-- an emission that is there is a packet
pub faultless_at : (es : List Emission) (n : ℕ) (e : Emission) → All (λ x. fault is_first_byte x.bytes ≡ None) es → emission_at es n ≡ Some e → fault is_first_byte e.bytes ≡ None
faultless_at es zero e h at = absurd (none-some e (sym (emission_at-zero es) ∙ at))
faultless_at es (suc n) e h at =
    let there : slice_get es n ≡ Some e = sym (emission_at-suc es n) ∙ at in
    subst (λ (x : Emission). fault is_first_byte x.bytes ≡ None) (get_or_from_slice_get es n e e there) (h n e (slice_get_within es n e there))

pub emission_at-row : (row : List ℕ) (spans : List Span) (n : ℕ) → (n ≡ 0 → ⊥) → emission_at (emissions_in row spans) n ≡ option_map (emission_in row) (slice_get spans (n - 1))
emission_at-row row spans zero h = absurd (h refl)
emission_at-row row spans (suc n) h =
    let before : n ≡ suc n - 1 = omega arith in
    emission_at-suc (emissions_in row spans) n
    ∙ (slice_get-map (emission_in row) spans n ∙ ap (λ k. option_map (emission_in row) (slice_get spans k)) before)
