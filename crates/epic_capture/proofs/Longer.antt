-- What stands at the front of some bytes stays when more bytes follow.
use Rattle.std.proofs.Common.{◌≡◌, ℕ, ◌+◌, ◌<◌, ◌≤◌, Bool, true, false, cond, eqb, ltb, List, ◌++◌, length, drop, slice_index, Option, Some, None, Result, Ok, Err, ◌⊎◌, inl, inr, ◌==◌, refl, ap, sym, ◌∙◌, subst, arith}
use Rattle.std.specs.Prelude.{not, ◌||◌}
use Rattle.std.proofs.Common.{length-append, length-drop}
use Rattle.std.proofs.lemmas.List.{drop-append-le, get_or_append_left}
use Rattle.std.proofs.lemmas.Bool.{cond_both, false≢true, ltb-true, ltb-false, le-ltb}
use Rattle.std.proofs.lemmas.Bool.Decides.{nat_tests}
use Rattle.byteorder.specs.Endian.{big_number}
use Rattle.byteorder.specs.Numbers.{big_from-append, little_from-append}
use Rattle.epic_num.specs.declared.passed.Place.{Place}
use Rattle.epic_capture.specs.declared.damage.CaptureError.{CaptureError}
use Rattle.epic_capture.specs.declared.damage.CaptureKind.{CaptureKind}
use Rattle.epic_capture.specs.declared.damage.CaptureKind.TheVariants.{Truncated, Magic, VersionNumber, LinkType, TooMany}
use Rattle.epic_capture.specs.declared.format.Format.{Format}
use Rattle.epic_capture.specs.declared.found.Found.{Found}
use Rattle.epic_capture.specs.declared.numbers.Order.{Order}
use Rattle.epic_capture.specs.declared.numbers.Order.TheVariants.{Little, Big}
use Rattle.epic_capture.specs.Numbers.{number}
use Rattle.epic_capture.specs.Moments.{most_fraction}
use Rattle.epic_capture.specs.PseudoHeader.{place_of}
use Rattle.epic_capture.specs.Capture.{damage, format_of, checked, of_format, head, of_place, record_of, judged, found_at}
use Rattle.epic_capture.specs.Reading.{is_truncated}
use Rattle.epic_capture.proofs.Judged.{judged_cases, judged_short, judged_cut, judged_there}

-- a number at the front
pub number-append : (order : Order) (n : ℕ) (xs ys : List ℕ) → n ≤ length xs → number order n (xs ++ ys) ≡ number order n xs
number-append Little n xs ys h = little_from-append n xs ys h
number-append Big n xs ys h = big_from-append n xs ys h

-- a number further on
pub number-drop-append : (order : Order) (n k : ℕ) (xs ys : List ℕ) → k + n ≤ length xs → number order n (drop k (xs ++ ys)) ≡ number order n (drop k xs)
number-drop-append order n k xs ys h =
    let cut : drop k (xs ++ ys) ≡ drop k xs ++ ys = drop-append-le k xs ys (omega arith) in
    let there : n ≤ length (drop k xs) = omega (arith, length-drop k xs) in
    ap (λ (zs : List ℕ). number order n zs) cut ∙ number-append order n (drop k xs) ys there

-- a pseudo-header
pub place_of-append : (xs ys : List ℕ) → 16 ≤ length xs → place_of (xs ++ ys) ≡ place_of xs
unfolding place_of
place_of-append xs ys h =
    let asn : big_number 8 (xs ++ ys) ≡ big_number 8 xs = big_from-append 8 xs ys (omega arith) in
    let kind : slice_index (xs ++ ys) 8 ≡ slice_index xs 8 = get_or_append_left xs ys 0 8 (omega arith) in
    let empty : slice_index (xs ++ ys) 9 ≡ slice_index xs 9 = get_or_append_left xs ys 0 9 (omega arith) in
    let iface : big_number 2 (drop 10 (xs ++ ys)) ≡ big_number 2 (drop 10 xs) = number-drop-append Big 2 10 xs ys (omega arith) in
    let host : big_number 4 (drop 12 (xs ++ ys)) ≡ big_number 4 (drop 12 xs) = number-drop-append Big 4 12 xs ys (omega arith) in
    cc

-- a record
pub record_of-append : (format : Format) (begin : ℕ) (xs ys : List ℕ) → 32 ≤ length xs → record_of format begin (xs ++ ys) ≡ record_of format begin xs
unfolding record_of
record_of-append format begin xs ys h =
    let seconds = number-append format.order 4 xs ys (omega arith) in
    let fraction = number-drop-append format.order 4 4 xs ys (omega arith) in
    let captured = number-drop-append format.order 4 8 xs ys (omega arith) in
    let cut : drop 16 (xs ++ ys) ≡ drop 16 xs ++ ys = drop-append-le 16 xs ys (omega arith) in
    let there : 16 ≤ length (drop 16 xs) = omega (arith, length-drop 16 xs) in
    let place : place_of (drop 16 (xs ++ ys)) ≡ place_of (drop 16 xs) = ap place_of cut ∙ place_of-append (drop 16 xs) ys there in
    rw (seconds, fraction, captured, place) refl

-- a record's damage, or the record, but for an early end
pub found_longer : (format : Format) (left begin : ℕ) (xs ys : List ℕ)
    → (found_at format left begin xs ≡ Err (damage Truncated begin) → ⊥) → found_at format left begin (xs ++ ys) ≡ found_at format left begin xs
unfolding found_at
found_longer format left begin xs ys open_ =
    by_length (sides 16 (length xs)) (sides (16 + number format.order 4 (drop 8 xs)) (length xs))
  where
    more : length xs ≤ length (xs ++ ys)
    more = omega (arith, length-append xs ys)

    fraction : 16 ≤ length xs → number format.order 4 (drop 4 (xs ++ ys)) ≡ number format.order 4 (drop 4 xs)
    fraction h = number-drop-append format.order 4 4 xs ys (omega arith)

    captured : 16 ≤ length xs → number format.order 4 (drop 8 (xs ++ ys)) ≡ number format.order 4 (drop 8 xs)
    captured h = number-drop-append format.order 4 8 xs ys (omega arith)

    sides : (a b : ℕ) → (a ≤ b) ⊎ (b < a)
    sides a b = grind arith

    by_length : (16 ≤ length xs) ⊎ (length xs < 16) → (16 + number format.order 4 (drop 8 xs) ≤ length xs) ⊎ (length xs < 16 + number format.order 4 (drop 8 xs))
        → judged left begin (length (xs ++ ys)) (most_fraction format.unit) (number format.order 4 (drop 4 (xs ++ ys))) (number format.order 4 (drop 8 (xs ++ ys))) (record_of format begin (xs ++ ys))
        ≡ judged left begin (length xs) (most_fraction format.unit) (number format.order 4 (drop 4 xs)) (number format.order 4 (drop 8 xs)) (record_of format begin xs)
    by_length (inr short) _ = judged_short left begin (length xs) (length (xs ++ ys)) _ _ _ _ _ _ _ short more open_
    by_length (inl header) (inr short) =
        rw (fraction header, captured header) (judged_cut left begin (length xs) (length (xs ++ ys)) _ _ _ _ _ header short more open_)
    by_length (inl header) (inl there) =
        rw (fraction header, captured header) (judged_there left begin (length xs) (length (xs ++ ys)) _ _ _ _ _ header there more
        (λ c. record_of-append format begin xs ys (omega arith)))

-- nothing at the front is an early end
pub found_none : (format : Format) (left begin : ℕ) (xs : List ℕ) → length xs ≡ 0 → found_at format left begin xs ≡ Err (damage Truncated begin)
unfolding found_at judged
found_none format left begin xs h = rw h refl

-- where no record may come, one more is too many
pub none_left : (format : Format) (begin : ℕ) (xs : List ℕ) → (length xs ≡ 0 → ⊥) → found_at format 0 begin xs ≡ Err (damage TooMany begin)
unfolding found_at judged
none_left format begin xs h =
    let test : eqb (length xs) 0 ≡ false = grind (arith, nat_tests) in
    rw test refl

-- An early end, as what it is
pub record EndsEarly (begin len : ℕ) (e : CaptureError) : Type 0 where
  pub is : e ≡ damage Truncated begin
  pub few : len < 16400
  pub limit : begin ≤ 67108864 → begin + len ≤ 67108864

abbrev early_by : ℕ → ℕ → Result Found CaptureError → Type 0
early_by begin len (Ok found) = Unit {0}
early_by begin len (Err e) = is_truncated e.kind ≡ true → EndsEarly begin len e

abbrev fits_by : ℕ → ℕ → ℕ → Result Found CaptureError → Type 0
fits_by left begin len (Ok found) = (0 < left) × (32 ≤ found.len) × (found.len ≤ len) × (begin ≤ 67108864 → begin + found.len ≤ 67108864)
fits_by left begin len (Err e) = Unit {0}

-- a record's only damage is no early end
record_early : (begin len at moment size : ℕ) (place : Option Place) → early_by begin len (of_place at moment size place)
record_early begin len at moment size None = λ t. absurd (false≢true t)
record_early begin len at moment size (Some place) = tt

record_fits : (left begin len moment size : ℕ) (place : Option Place) → 0 < left → 32 ≤ size → size ≤ len → (begin ≤ 67108864 → begin + size ≤ 67108864)
    → fits_by left begin len (of_place begin moment size place)
record_fits left begin len moment size None some header there limit = tt
record_fits left begin len moment size (Some place) some header there limit = (some, header, there, limit)

-- an early end is nothing else
pub found_early : (format : Format) (left begin : ℕ) (xs : List ℕ) (e : CaptureError) → found_at format left begin xs ≡ Err e → is_truncated e.kind ≡ true → EndsEarly begin (length xs) e
unfolding found_at record_of
found_early format left begin xs e h t =
    let P : Result Found CaptureError → Type 0 = early_by begin (length xs) in
    let all : P (found_at format left begin xs) =
    judged_cases P left begin (length xs) _ _ _ _
    (λ kind offset other t. absurd (false≢true (sym other ∙ t)))
    (λ few limit t. record { is = refl; few = few; limit = limit })
    (λ some header small there limit. record_early begin (length xs) begin _ _ (place_of (drop 16 xs))) in
    let here : P (Err e) = subst P h all in
    here t

-- a record that is found
pub record Fits (left begin len : ℕ) (found : Found) : Type 0 where
  pub some : 0 < left
  pub header : 32 ≤ found.len
  pub there : found.len ≤ len
  pub limit : begin ≤ 67108864 → begin + found.len ≤ 67108864

pub found_fits : (format : Format) (left begin : ℕ) (xs : List ℕ) (found : Found) → found_at format left begin xs ≡ Ok found → Fits left begin (length xs) found
unfolding found_at record_of
found_fits format left begin xs found h =
    let P : Result Found CaptureError → Type 0 = fits_by left begin (length xs) in
    let all : P (found_at format left begin xs) =
    judged_cases P left begin (length xs) _ _ _ _
    (λ kind offset other. tt)
    (λ few limit. tt)
    (λ some header small there limit. record_fits left begin (length xs) _ _ (place_of (drop 16 xs)) some (omega arith) there limit) in
    let here : P (Ok found) = subst P h all in
    record { some = here.0; header = here.1; there = here.2; limit = here.3 }

-- the file's header
format_of-append : (xs ys : List ℕ) → 24 ≤ length xs → format_of (xs ++ ys) ≡ format_of xs
unfolding format_of
format_of-append xs ys h =
    let little : number Little 4 (xs ++ ys) ≡ number Little 4 xs = number-append Little 4 xs ys (omega arith) in
    let big : number Big 4 (xs ++ ys) ≡ number Big 4 xs = number-append Big 4 xs ys (omega arith) in
    rw (little, big) refl

checked-append : (format : Format) (xs ys : List ℕ) → 24 ≤ length xs → checked format (xs ++ ys) ≡ checked format xs
unfolding checked
checked-append format xs ys h =
    let major = number-drop-append format.order 2 4 xs ys (omega arith) in
    let minor = number-drop-append format.order 2 6 xs ys (omega arith) in
    let link = number-drop-append format.order 4 20 xs ys (omega arith) in
    rw (major, minor, link) refl

of_format-append : (o : Option Format) (xs ys : List ℕ) → 24 ≤ length xs → of_format o (xs ++ ys) ≡ of_format o xs
of_format-append None xs ys h = refl
of_format-append (Some format) xs ys h = checked-append format xs ys h

pub head_longer : (xs ys : List ℕ) → 24 ≤ length xs → head (xs ++ ys) ≡ head xs
unfolding head
head_longer xs ys h =
    let short : ltb (length xs) 24 ≡ false = le-ltb (length xs) 24 h in
    let shorter : ltb (length (xs ++ ys)) 24 ≡ false = le-ltb (length (xs ++ ys)) 24 (omega (arith, length-append xs ys)) in
    rw (short, shorter, format_of-append xs ys h) (of_format-append (format_of xs) xs ys h)

-- what the file's header says of its length
abbrev head_by : List ℕ → Result Format CaptureError → Type 0
head_by xs (Ok format) = 24 ≤ length xs
head_by xs (Err e) = ((is_truncated e.kind ≡ true) × (length xs < 24) × (e ≡ damage Truncated 0)) ⊎ ((is_truncated e.kind ≡ false) × (24 ≤ length xs))

other_damage : (xs : List ℕ) (kind : CaptureKind) (offset : ℕ) → is_truncated kind ≡ false → 24 ≤ length xs → head_by xs (Err (damage kind offset))
other_damage xs kind offset other h = inr (other, h)

other_link : Format → List ℕ → Bool
other_link format xs = not (number format.order 4 (drop 20 xs) == 147)

other_version : Format → List ℕ → Bool
other_version format xs = not (number format.order 2 (drop 4 xs) == 2) || not (number format.order 2 (drop 6 xs) == 4)

checked_cases : (P : Result Format CaptureError → Type 0) (format : Format) (xs : List ℕ)
    → ((kind : CaptureKind) (offset : ℕ) → is_truncated kind ≡ false → P (Err (damage kind offset))) → P (Ok format) → P (checked format xs)
unfolding checked other_link other_version
checked_cases P format xs other good =
    cond_both (other_version format xs) _ (cond (other_link format xs) (Err (damage LinkType 20)) (Ok format)) P (λ t. other VersionNumber 4 refl)
    (λ f. cond_both (other_link format xs) _ _ P (λ t. other LinkType 20 refl) (λ f. good))

checked_says : (format : Format) (xs : List ℕ) → 24 ≤ length xs → head_by xs (checked format xs)
checked_says format xs h = checked_cases (head_by xs) format xs (λ kind offset other. other_damage xs kind offset other h) h

of_format_says : (o : Option Format) (xs : List ℕ) → 24 ≤ length xs → head_by xs (of_format o xs)
of_format_says None xs h = other_damage xs Magic 0 refl h
of_format_says (Some format) xs h = checked_says format xs h

too_short : (xs : List ℕ) → length xs < 24 → head_by xs (Err (damage Truncated 0))
too_short xs h = inl (refl, h, refl)

head_cases : (P : Result Format CaptureError → Type 0) (xs : List ℕ)
    → (length xs < 24 → P (Err (damage Truncated 0))) → (24 ≤ length xs → P (of_format (format_of xs) xs)) → P (head xs)
unfolding head
head_cases P xs short long =
    cond_both (ltb (length xs) 24) _ _ P (λ t. short (ltb-true (length xs) 24 t)) (λ f. long (ltb-false (length xs) 24 f))

pub head_says : (xs : List ℕ) → head_by xs (head xs)
head_says xs = head_cases (head_by xs) xs (λ h. too_short xs h) (λ h. of_format_says (format_of xs) xs h)

pub head_long : (xs : List ℕ) (format : Format) → head xs ≡ Ok format → 24 ≤ length xs
head_long xs format h = subst (head_by xs) h (head_says xs)

pub head_damage : (xs : List ℕ) (e : CaptureError) → head xs ≡ Err e
    → ((is_truncated e.kind ≡ true) × (length xs < 24) × (e ≡ damage Truncated 0)) ⊎ ((is_truncated e.kind ≡ false) × (24 ≤ length xs))
head_damage xs e h = subst (head_by xs) h (head_says xs)
