-- What is to come, by what stands at the front of the bytes that are held.
use Rattle.std.proofs.Common.{◌≡◌, ℕ, zero, suc, ◌+◌, ◌-◌, true, false, eqb, List, [], ◌++◌, length, take, drop, Some, None, Result, Ok, Err, ◌⊎◌, inl, inr, refl, ap, sym, ◌∙◌, arith}
use Rattle.std.proofs.lemmas.List.{drop-append-le, take-append-le}
use Rattle.std.proofs.lemmas.Bool.{ne_eqb, eq-eqb, true≢false, cases_eq}
use Rattle.std.proofs.Common.{append-nil, length-append}
use Rattle.epic_capture.specs.declared.damage.CaptureError.{CaptureError}
use Rattle.epic_capture.specs.declared.damage.CaptureKind.TheVariants.{Truncated, TooMany}
use Rattle.epic_capture.specs.declared.format.Format.{Format}
use Rattle.epic_capture.specs.declared.found.Found.{Found}
use Rattle.epic_capture.specs.Records.{whole, damaged, with_record}
use Rattle.epic_capture.specs.Streams.{first}
use Rattle.epic_capture.specs.Capture.{damage, found_at, captured, records_from}
use Rattle.epic_capture.specs.Reading.{is_truncated}
use Rattle.epic_capture.specs.Steps.{answer_of, unread}
use Rattle.epic_capture.proofs.Results.{found_error, found_not_error, same_found_error, none_not_answer, chose_none}
use Rattle.epic_capture.proofs.Longer.{found_longer, found_none, none_left, found_early, found_fits, Fits}

-- nothing is left
pub records_none : (left : ℕ) (format : Format) (begin : ℕ) (xs : List ℕ) → length xs ≡ 0 → records_from left format begin xs ≡ whole
unfolding records_from
records_none zero format begin xs h = rw h refl
records_none (suc left) format begin xs h = rw h refl

-- damage at the front
pub records_damage : (left : ℕ) (format : Format) (begin : ℕ) (xs : List ℕ) (e : CaptureError)
    → (length xs ≡ 0 → ⊥) → found_at format left begin xs ≡ Err e → records_from left format begin xs ≡ damaged e
unfolding records_from
records_damage zero format begin xs e some h =
    let test : eqb (length xs) 0 ≡ false = ne_eqb (length xs) 0 some in
    let same : damage TooMany begin ≡ e = same_found_error (damage TooMany begin) e (sym (none_left format begin xs some) ∙ h) in
    rw test (ap damaged same)
records_damage (suc left) format begin xs e some h =
    let test : eqb (length xs) 0 ≡ false = ne_eqb (length xs) 0 some in
    rw (test, h) refl

-- a record at the front
pub records_record : (left : ℕ) (format : Format) (begin : ℕ) (xs : List ℕ) (found : Found)
    → found_at format left begin xs ≡ Ok found
    → records_from left format begin xs
    ≡ with_record (captured found (take found.len xs)) (records_from (left - 1) format (begin + found.len) (drop found.len xs))
unfolding records_from
records_record left format begin xs found h = by left h (found_fits format left begin xs found h)
  where
    by : (left : ℕ) → found_at format left begin xs ≡ Ok found → Fits left begin (length xs) found
        → records_from left format begin xs
        ≡ with_record (captured found (take found.len xs)) (records_from (left - 1) format (begin + found.len) (drop found.len xs))
    by zero h fits = absurd (omega (arith, fits.some))
    by (suc left) h fits =
        let test : eqb (length xs) 0 ≡ false = ne_eqb (length xs) 0 (λ e. omega (arith, fits.header, fits.there)) in
        let less : suc left - 1 ≡ left = omega arith in
        rw (test, h, less) refl

-- a record at the front of the bytes held, whatever follows them
pub record_held : (left : ℕ) (format : Format) (begin : ℕ) (xs : List ℕ) (found : Found) (rest : List ℕ)
    → found_at format left begin xs ≡ Ok found
    → records_from left format begin (xs ++ rest)
    ≡ with_record (captured found (take found.len xs)) (records_from (left - 1) format (begin + found.len) (drop found.len xs ++ rest))
record_held left format begin xs found rest h =
    let fits = found_fits format left begin xs found h in
    let longer : found_at format left begin (xs ++ rest) ≡ Ok found = found_longer format left begin xs rest (λ e. found_not_error found (damage Truncated begin) (sym h ∙ e)) ∙ h in
    let front : take found.len (xs ++ rest) ≡ take found.len xs = take-append-le found.len xs rest fits.there in
    let behind : drop found.len (xs ++ rest) ≡ drop found.len xs ++ rest = drop-append-le found.len xs rest fits.there in
    records_record left format begin (xs ++ rest) found longer
    ∙ ap (λ (ys : List ℕ). with_record (captured found ys) (records_from (left - 1) format (begin + found.len) (drop found.len (xs ++ rest)))) front
    ∙ ap (λ (ys : List ℕ). with_record (captured found (take found.len xs)) (records_from (left - 1) format (begin + found.len) ys)) behind

-- damage at the front of the bytes held, whatever follows them
pub damage_held : (left : ℕ) (format : Format) (begin : ℕ) (xs : List ℕ) (e : CaptureError) (rest : List ℕ)
    → found_at format left begin xs ≡ Err e → is_truncated e.kind ≡ false → records_from left format begin (xs ++ rest) ≡ damaged e
damage_held left format begin xs e rest h other =
    let not_early : found_at format left begin xs ≡ Err (damage Truncated begin) → ⊥ = λ t. early_not (sym h ∙ t) in
    let longer : found_at format left begin (xs ++ rest) ≡ Err e = found_longer format left begin xs rest not_early ∙ h in
    let some : length (xs ++ rest) ≡ 0 → ⊥ = λ none. not_early (found_none format left begin xs (omega (arith, none, length-append xs rest))) in
    records_damage left format begin (xs ++ rest) e some longer
  where
    early_not : found_error e ≡ found_error (damage Truncated begin) → ⊥
    early_not same =
        let is : e ≡ damage Truncated begin = same_found_error e (damage Truncated begin) same in
        true≢false (sym (ap (λ (e : CaptureError). is_truncated e.kind) is) ∙ other)

-- what the bytes held say next, where no whole record and no other damage stands there
pub damage_next : (left : ℕ) (format : Format) (begin : ℕ) (xs : List ℕ) (e : CaptureError)
    → found_at format left begin xs ≡ Err e → first (λ e. is_truncated e.kind) (records_from left format begin (xs ++ [])) ≡ answer_of e
damage_next left format begin xs e h =
    rw append-nil (by (cases_eq (length xs) 0))
  where
    by : (length xs ≡ 0) ⊎ (length xs ≡ 0 → ⊥) → first (λ e. is_truncated e.kind) (records_from left format begin xs) ≡ answer_of e
    by (inl none) =
        let is : e ≡ damage Truncated begin = same_found_error e (damage Truncated begin) (sym h ∙ found_none format left begin xs none) in
        rw (records_none left format begin xs none, is) refl
    by (inr some) = rw (records_damage left format begin xs e some h) refl

-- the end of a file behind bytes without a whole record and without other damage
pub end_held : (left : ℕ) (format : Format) (begin : ℕ) (xs : List ℕ) → first (λ e. is_truncated e.kind) (records_from left format begin (xs ++ [])) ≡ Ok None
    → records_from left format begin (xs ++ []) ≡ record { items = []; damage = unread begin (length xs) }
unfolding unread
end_held left format begin xs h =
    rw append-nil (by (cases_eq (length xs) 0) (found_at format left begin xs) refl (rw append-nil at h))
  where
    by : (length xs ≡ 0) ⊎ (length xs ≡ 0 → ⊥) → (r : Result Found CaptureError) → found_at format left begin xs ≡ r
        → first (λ e. is_truncated e.kind) (records_from left format begin xs) ≡ Ok None
        → records_from left format begin xs ≡ record { items = []; damage = unread begin (length xs) }
    by (inl none) r is h = records_none left format begin xs none ∙ rw (eq-eqb (length xs) 0 none) refl
    by (inr some) (Ok found) is h =
        let e : first (λ e. is_truncated e.kind) (records_from left format begin xs) ≡ Ok (Some (captured found (take found.len xs))) = rw (records_record left format begin xs found is) refl in
        absurd (none_not_answer (captured found (take found.len xs)) (sym h ∙ e))
    by (inr some) (Err e) is h =
        let all : records_from left format begin xs ≡ damaged e = records_damage left format begin xs e some is in
        let answer : answer_of e ≡ Ok None = sym (rw all refl) ∙ h in
        let early : is_truncated e.kind ≡ true = chose_none (is_truncated e.kind) e answer in
        let ends = found_early format left begin xs e is early in
        all ∙ rw (ends.is, ne_eqb (length xs) 0 some) refl
