-- The order of two packets' path bytes, by their pieces.
use Rattle.std.proofs.Common.{◌≡◌, ℕ, zero, suc, ◌+◌, ◌-◌, ◌*◌, ◌<◌, ◌≤◌, min, List, [], ◌∷◌, ◌++◌, length, drop, Ordering, refl, ap, sym, ◌∙◌, arith}
use Rattle.std.specs.Cmp.Lexicographic.{slice_cmp}
use Rattle.std.specs.List.{flat_map, range_with_len}
use Rattle.std.specs.Ordering.{nat_cmp, ordering_then}
use Rattle.std.specs.declared.cmp.Ordering.TheVariants.{Less, Equal, Greater}
use Rattle.std.proofs.lemmas.Cmp.{nat_cmp_total, ranked, tied_itself}
use Rattle.std.proofs.lemmas.List.{length-drop, length-take-le}
use Rattle.std.proofs.lemmas.List.Concat.{flat_map-cons}
use Rattle.epic_layout.specs.Pieces.{byte, piece}
use Rattle.epic_layout.specs.Contents.{IsBytes}
use Rattle.epic_layout.specs.Layout.{parse, route_in, hops_in, hop_offset, hop_at}
use Rattle.epic_layout.specs.Sound.{IsSound}
use Rattle.epic_layout.specs.Spelling.{hop_bytes, path_bytes}
use Rattle.epic_layout.proofs.Offsets.{hop_there}
use Rattle.epic_layout.proofs.Shapes.{segments_parse}
use Rattle.epic_layout.proofs.Spelled.{segments_spelled, hop_bytes-at, path_bytes-parse}
use Rattle.epic_view.specs.Pieces.{hop_rows, path_rest}

-- ---- lists of numbers

then_assoc : (o p q : Ordering) → ordering_then o (ordering_then p q) ≡ ordering_then (ordering_then o p) q
then_assoc Less p q = refl
then_assoc Equal p q = refl
then_assoc Greater p q = refl

-- the order of joined lists, whose first parts are as long
slice_cmp-append : (xs ys us vs : List ℕ) → length xs ≡ length ys → slice_cmp nat_cmp (xs ++ us) (ys ++ vs) ≡ ordering_then (slice_cmp nat_cmp xs ys) (slice_cmp nat_cmp us vs)
slice_cmp-append [] [] us vs e = refl
slice_cmp-append [] (y ∷ ys) us vs e = absurd (cc)
slice_cmp-append (x ∷ xs) [] us vs e = absurd (cc)
slice_cmp-append (x ∷ xs) (y ∷ ys) us vs e =
    ap (ordering_then (nat_cmp x y)) (slice_cmp-append xs ys us vs (omega (arith, e))) ∙ then_assoc (nat_cmp x y) (slice_cmp nat_cmp xs ys) (slice_cmp nat_cmp us vs)

lesser : (m n : ℕ) (o : Ordering) → o ≡ nat_cmp m n → m < n → nat_cmp m n ≡ Less
lesser m n Less e h = sym e
lesser m n Equal e h = let same : m ≡ n = ranked m n Equal e in absurd (omega (arith, same))
lesser m n Greater e h = let high : n < m = ranked m n Greater e in absurd (omega (arith, high))

greater : (m n : ℕ) (o : Ordering) → o ≡ nat_cmp m n → n < m → nat_cmp m n ≡ Greater
greater m n Greater e h = sym e
greater m n Equal e h = let same : m ≡ n = ranked m n Equal e in absurd (omega (arith, same))
greater m n Less e h = let low : m < n = ranked m n Less e in absurd (omega (arith, low))

none_first : (ys zs : List ℕ) → 0 < length ys → slice_cmp nat_cmp [] (ys ++ zs) ≡ Less
none_first [] zs h = absurd (omega arith)
none_first (y ∷ ys) zs h = refl

none_last : (ys zs : List ℕ) → 0 < length ys → slice_cmp nat_cmp (ys ++ zs) [] ≡ Greater
none_last [] zs h = absurd (omega arith)
none_last (y ∷ ys) zs h = refl

-- ---- hops

length-piece : (b : List ℕ) (at n : ℕ) → at + n ≤ length b → length (piece b at n) ≡ n
length-piece b at n h = length-take-le n (drop at b) (omega (arith, length-drop at b))

-- how long the bytes of a hop are
row_long : (b : List ℕ) (i : ℕ) → IsSound b → i < hops_in b → length (piece b (hop_offset b i) 13) ≡ 13
row_long b i s h = length-piece b (hop_offset b i) 13 (omega (arith, hop_there b i s h))

rows_end : (l r : List ℕ) (i m n : ℕ) → (0 < m → 0 < length (piece l (hop_offset l i) 13)) → (0 < n → 0 < length (piece r (hop_offset r i) 13)) → min m n ≡ 0 → nat_cmp (i + m) (i + n) ≡ slice_cmp nat_cmp (hop_rows l i m) (hop_rows r i n)
rows_end l r i zero zero long long_right h = tied_itself nat_cmp_total (i + 0)
rows_end l r i zero (suc n) long long_right h =
    lesser (i + 0) (i + suc n) (nat_cmp (i + 0) (i + suc n)) refl (omega arith) ∙ sym (none_first (piece r (hop_offset r i) 13) (hop_rows r (i + 1) n) (long_right (omega arith)))
rows_end l r i (suc m) zero long long_right h =
    greater (i + suc m) (i + 0) (nat_cmp (i + suc m) (i + 0)) refl (omega arith) ∙ sym (none_last (piece l (hop_offset l i) 13) (hop_rows l (i + 1) m) (long (omega arith)))
rows_end l r i (suc m) (suc n) long long_right h = absurd (omega (arith, h))

-- the hops that are left behind the last that both have
pub rows_last : (l r : List ℕ) (i : ℕ) → IsSound l → IsSound r → i ≡ min (hops_in l) (hops_in r) → nat_cmp (hops_in l) (hops_in r) ≡ slice_cmp nat_cmp (hop_rows l i (hops_in l - i)) (hop_rows r i (hops_in r - i))
rows_last l r i sl sr e =
    let left : hops_in l ≡ i + (hops_in l - i) = omega (arith, e) in
    let right : hops_in r ≡ i + (hops_in r - i) = omega (arith, e) in
    (λ k. nat_cmp (left k) (right k))
    ∙ rows_end l r i (hops_in l - i) (hops_in r - i) (λ h. omega (arith, row_long l i sl (omega (arith, h)))) (λ h. omega (arith, row_long r i sr (omega (arith, h)))) (omega (arith, e))

pub rows_step : (l r : List ℕ) (i : ℕ) → IsSound l → IsSound r → i < hops_in l → i < hops_in r → slice_cmp nat_cmp (hop_rows l i (hops_in l - i)) (hop_rows r i (hops_in r - i)) ≡ ordering_then (slice_cmp nat_cmp (piece l (hop_offset l i) 13) (piece r (hop_offset r i) 13)) (slice_cmp nat_cmp (hop_rows l (i + 1) (hops_in l - (i + 1))) (hop_rows r (i + 1) (hops_in r - (i + 1))))
rows_step l r i sl sr hl hr =
    let left : hops_in l - i ≡ suc (hops_in l - (i + 1)) = omega arith in
    let right : hops_in r - i ≡ suc (hops_in r - (i + 1)) = omega arith in
    (λ k. slice_cmp nat_cmp (hop_rows l i (left k)) (hop_rows r i (right k)))
    ∙ slice_cmp-append (piece l (hop_offset l i) 13) (piece r (hop_offset r i) 13) _ _ (row_long l i sl hl ∙ sym (row_long r i sr hr))

rows_spelled : (b : List ℕ) (i n : ℕ) → IsBytes b → IsSound b → i + n ≤ hops_in b → flat_map (λ j. hop_bytes (hop_at b j)) (range_with_len i n) ≡ hop_rows b i n
rows_spelled b i zero bytes s h = refl
rows_spelled b i (suc n) bytes s h =
    flat_map-cons (λ j. hop_bytes (hop_at b j)) i (range_with_len (i + 1) n)
    ∙ (λ k. hop_bytes-at b (hop_offset b i) bytes (omega (arith, hop_there b i s (omega arith))) k ++ rows_spelled b (i + 1) n bytes s (omega arith) k)

-- ---- paths

pub path_spelled : (b : List ℕ) → IsBytes b → IsSound b → path_bytes (parse b).route ≡ byte b 6 ∷ path_rest b
unfolding parse route_in path_rest
path_spelled b bytes s =
    path_bytes-parse b
    ∙ (λ k. segments_parse b k ∷ (segments_spelled b bytes s k ++ rows_spelled b 0 (hops_in b) bytes s (omega arith) k))

pub paths_cmp : (l r : List ℕ) → IsBytes l → IsBytes r → IsSound l → IsSound r → slice_cmp nat_cmp (path_bytes (parse l).route) (path_bytes (parse r).route) ≡ ordering_then (nat_cmp (byte l 6) (byte r 6)) (slice_cmp nat_cmp (path_rest l) (path_rest r))
paths_cmp l r bl br sl sr = λ k. slice_cmp nat_cmp (path_spelled l bl sl k) (path_spelled r br sr k)

pub rests_cmp : (l r : List ℕ) → IsSound l → IsSound r → byte l 6 ≡ byte r 6 → slice_cmp nat_cmp (path_rest l) (path_rest r) ≡ ordering_then (slice_cmp nat_cmp (piece l 40 (8 * byte l 6)) (piece r 40 (8 * byte l 6))) (slice_cmp nat_cmp (hop_rows l 0 (hops_in l)) (hop_rows r 0 (hops_in r)))
unfolding path_rest
rests_cmp l r sl sr e =
    let long : length (piece l 40 (8 * byte l 6)) ≡ 8 * byte l 6 = length-piece l 40 (8 * byte l 6) (omega (arith, sl.segments_there)) in
    let long_right : length (piece r 40 (8 * byte r 6)) ≡ 8 * byte r 6 = length-piece r 40 (8 * byte r 6) (omega (arith, sr.segments_there)) in
    slice_cmp-append (piece l 40 (8 * byte l 6)) (piece r 40 (8 * byte r 6)) _ _ (omega (arith, long, long_right, e))
    ∙ ap (λ n. ordering_then (slice_cmp nat_cmp (piece l 40 (8 * byte l 6)) (piece r 40 (8 * n))) (slice_cmp nat_cmp (hop_rows l 0 (hops_in l)) (hop_rows r 0 (hops_in r)))) (sym e)

-- ---- by an order that was found

pub rows_by : (l r : List ℕ) (i at other : ℕ) (o : Ordering) → IsSound l → IsSound r → i < hops_in l → i < hops_in r → at ≡ hop_offset l i → other ≡ hop_offset r i → o ≡ slice_cmp nat_cmp (piece l at 13) (piece r other 13) → slice_cmp nat_cmp (hop_rows l i (hops_in l - i)) (hop_rows r i (hops_in r - i)) ≡ ordering_then o (slice_cmp nat_cmp (hop_rows l (i + 1) (hops_in l - (i + 1))) (hop_rows r (i + 1) (hops_in r - (i + 1))))
rows_by l r i at other o sl sr hl hr left right e =
    let found = e ∙ (λ k. slice_cmp nat_cmp (piece l (left k) 13) (piece r (right k) 13)) in
    rows_step l r i sl sr hl hr ∙ ap (λ p. ordering_then p (slice_cmp nat_cmp (hop_rows l (i + 1) (hops_in l - (i + 1))) (hop_rows r (i + 1) (hops_in r - (i + 1))))) (sym found)

pub rests_by : (l r : List ℕ) (m n : ℕ) (o : Ordering) → IsSound l → IsSound r → m ≡ byte l 6 → n ≡ byte r 6 → m ≡ n → o ≡ slice_cmp nat_cmp (piece l 40 (8 * m)) (piece r 40 (8 * m)) → slice_cmp nat_cmp (path_rest l) (path_rest r) ≡ ordering_then o (slice_cmp nat_cmp (hop_rows l 0 (hops_in l)) (hop_rows r 0 (hops_in r)))
rests_by l r m n o sl sr left right same e =
    let found = e ∙ (λ k. slice_cmp nat_cmp (piece l 40 (8 * left k)) (piece r 40 (8 * left k))) in
    rests_cmp l r sl sr (sym left ∙ same ∙ right) ∙ ap (λ p. ordering_then p (slice_cmp nat_cmp (hop_rows l 0 (hops_in l)) (hop_rows r 0 (hops_in r)))) (sym found)

pub paths_by : (l r : List ℕ) (m n : ℕ) (o : Ordering) → IsBytes l → IsBytes r → IsSound l → IsSound r → m ≡ byte l 6 → n ≡ byte r 6 → o ≡ nat_cmp m n → slice_cmp nat_cmp (path_bytes (parse l).route) (path_bytes (parse r).route) ≡ ordering_then o (slice_cmp nat_cmp (path_rest l) (path_rest r))
paths_by l r m n o bl br sl sr left right e =
    let found = e ∙ (λ k. nat_cmp (left k) (right k)) in
    paths_cmp l r bl br sl sr ∙ ap (λ p. ordering_then p (slice_cmp nat_cmp (path_rest l) (path_rest r))) (sym found)

-- numbers that are found equal
pub same_numbers : (m n : ℕ) → Equal ≡ nat_cmp m n → m ≡ n
same_numbers m n e = ranked m n Equal e
