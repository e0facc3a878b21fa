-- What is found among the rows of events, and how they grow.
use Rattle.std.proofs.Common.{◌≡◌, ℕ, zero, suc, ◌+◌, ◌<◌, ◌≤◌, Bool, true, false, cond, ◌||◌, ◌&&◌, drop, inl, inr, List, [], ◌∷◌, ◌++◌, length, map, Option, Some, None, find, refl, sym, ap, ◌∙◌, append-nil, append_assoc, subst, arith}
use Rattle.std.specs.Prelude.{position, option_map, option_and_then, slice_get, filter_map, is_some, ◌==◌}
use Rattle.std.specs.List.{list_any, position_from, cons_option, flat_map, range_with_len}
use Rattle.std.specs.Option.{option_map_or}
use Rattle.std.proofs.lemmas.List.{map-append}
use Rattle.std.proofs.lemmas.List.Folds.{list_any-append}
use Rattle.std.proofs.lemmas.Bool.{and_parts, cases_lt}
use Rattle.std.proofs.lemmas.Bool.Decides.{Decides-eqb}
use Rattle.std.proofs.lemmas.Iterator.Adapters.{position_from-zero}
use Rattle.epic_audit.proofs.Finds.{found_at, missing_at, missing, none_there, any_there}
use Rattle.epic_audit.proofs.Walked.{range_at, range_here, range_over}
use Rattle.epic_ledger.proofs.Logging.{position-map}
use Rattle.epic_ledger.specs.declared.event.Event.{Event}
use Rattle.epic_index.specs.Numbered.{Numbered, row, rows_from, with_keys, AreRows}
use Rattle.epic_index.proofs.TwinKeys.{find_position}

-- ---- growth

map_same : {K : Type 0} (n : ℕ) (keys : List K) → map (λ (r : K × ℕ). r.1) (map (row n) keys) ≡ map (λ (k : K). n) keys
map_same n [] = refl
map_same n (k ∷ keys) = ap (λ (l : List ℕ). n ∷ l) (map_same n keys)

pub map_back : {K : Type 0} (n : ℕ) (keys : List K) → map (λ (r : K × ℕ). r.0) (map (row n) keys) ≡ keys
map_back n [] = refl
map_back n (k ∷ keys) = ap (λ (l : List _). k ∷ l) (map_back n keys)

-- one event more
rows_push : {K : Type 0} (f : Event → List K) (n : ℕ) (es : List Event) (e : Event)
    → rows_from f n (es ++ e ∷ []) ≡ rows_from f n es ++ map (row (n + length es)) (f e)
rows_push {K} f n [] e = append-nil _ ∙ ap (λ m. map (row m) (f e)) (omega arith)
rows_push {K} f n (x ∷ es) e =
    let at : n + 1 + length es ≡ n + length (x ∷ es) = omega arith in
    ap (λ (l : List (K × ℕ)). map (row n) (f x) ++ l)
    (rows_push f (n + 1) es e ∙ ap (λ m. rows_from f (n + 1) es ++ map (row m) (f e)) at)
    ∙ sym (append_assoc (map (row n) (f x)) (rows_from f (n + 1) es) (map (row (n + length (x ∷ es))) (f e)))

-- events that say the same have the same rows
rows_same : {K : Type 0} (f g : Event → List K) (n : ℕ) (es : List Event) → ((m : ℕ) (e : Event) → slice_get es m ≡ Some e → f e ≡ g e)
    → rows_from f n es ≡ rows_from g n es
rows_same f g n [] same = refl
rows_same {K} f g n (e ∷ es) same =
    ap (λ (keys : List K). map (row n) keys ++ rows_from f (n + 1) es) (same 0 e refl)
    ∙ ap (λ (l : List (K × ℕ)). map (row n) (g e) ++ l) (rows_same f g (n + 1) es (λ m x at. same (suc m) x at))

pub rows_kept : {K : Type 0} (f g : Event → List K) (es : List Event) (rows : Numbered K) → AreRows f es rows
    → ((m : ℕ) (e : Event) → slice_get es m ≡ Some e → f e ≡ g e) → AreRows g es rows
rows_kept {K} f g es rows h same = record {
  keys = h.keys ∙ ap (map (λ (r : K × ℕ). r.0)) (rows_same f g 0 es same);
  numbers = h.numbers ∙ ap (map (λ (r : K × ℕ). r.1)) (rows_same f g 0 es same);
}

rows_next : {K : Type 0} (g : Event → List K) (es : List Event) (a : Event) (rows : Numbered K) → AreRows g es rows
    → AreRows g (es ++ a ∷ []) (with_keys rows (length es) (g a))
rows_next {K} g es a rows h =
    let more = rows_push g 0 es a in
    let new : List (K × ℕ) = map (row (length es)) (g a) in
    let at : rows_from g 0 (es ++ a ∷ []) ≡ rows_from g 0 es ++ new = more ∙ ap (λ m. rows_from g 0 es ++ map (row m) (g a)) (omega arith) in
    record {
      keys =
          ap (λ (l : List K). l ++ g a) h.keys
          ∙ ap (λ (l : List K). map (λ (r : K × ℕ). r.0) (rows_from g 0 es) ++ l) (sym (map_back (length es) (g a)))
          ∙ sym (ap (map (λ (r : K × ℕ). r.0)) at ∙ map-append (λ (r : K × ℕ). r.0) (rows_from g 0 es) new);
      numbers =
          ap (λ (l : List ℕ). l ++ map (λ (k : K). length es) (g a)) h.numbers
          ∙ ap (λ (l : List ℕ). map (λ (r : K × ℕ). r.1) (rows_from g 0 es) ++ l) (sym (map_same (length es) (g a)))
          ∙ sym (ap (map (λ (r : K × ℕ). r.1)) at ∙ map-append (λ (r : K × ℕ). r.1) (rows_from g 0 es) new);
    }

-- one event more, whose keys were read before it came
pub rows_more : {K : Type 0} (f g : Event → List K) (es : List Event) (e a : Event) (rows : Numbered K) → AreRows f es rows
    → ((m : ℕ) (x : Event) → slice_get es m ≡ Some x → f x ≡ g x) → f e ≡ g a
    → AreRows g (es ++ a ∷ []) (with_keys rows (length es) (f e))
rows_more {K} f g es e a rows h same at =
    subst (λ (keys : List K). AreRows g (es ++ a ∷ []) (with_keys rows (length es) keys)) (sym at) (rows_next g es a rows (rows_kept f g es rows h same))

-- no events, and no rows
pub rows_none : {K : Type 0} (f : Event → List K) (es : List Event) (rows : Numbered K) → es ≡ [] → rows ≡ record { keys = []; numbers = [] } → AreRows f es rows
rows_none {K} f es rows e none = record {
  keys = ap (λ (r : Numbered K). r.keys) none ∙ rw e refl;
  numbers = ap (λ (r : Numbered K). r.numbers) none ∙ rw e refl;
}

-- ---- searches

find_row : {K : Type 0} (q : K → Bool) (n : ℕ) (keys : List K) (rest : List (K × ℕ))
    → option_map (λ (r : K × ℕ). r.1) (find (λ (r : K × ℕ). q r.0) (map (row n) keys ++ rest))
    ≡ cond (list_any q keys) (Some n) (option_map (λ (r : K × ℕ). r.1) (find (λ (r : K × ℕ). q r.0) rest))
find_row q n [] rest = refl
find_row {K} q n (k ∷ keys) rest = by (q k) (find_row q n keys rest)
  where
    by : (b : Bool)
        → option_map (λ (r : K × ℕ). r.1) (find (λ (r : K × ℕ). q r.0) (map (row n) keys ++ rest))
        ≡ cond (list_any q keys) (Some n) (option_map (λ (r : K × ℕ). r.1) (find (λ (r : K × ℕ). q r.0) rest))
        → option_map (λ (r : K × ℕ). r.1) (cond b (Some (k, n)) (find (λ (r : K × ℕ). q r.0) (map (row n) keys ++ rest)))
        ≡ cond (b || list_any q keys) (Some n) (option_map (λ (r : K × ℕ). r.1) (find (λ (r : K × ℕ). q r.0) rest))
    by true more = refl
    by false more = more

row_from : {K : Type 0} (f : Event → List K) (q : K → Bool) (n : ℕ) (es : List Event)
    → option_map (λ (r : K × ℕ). r.1) (find (λ (r : K × ℕ). q r.0) (rows_from f n es)) ≡ position_from (λ e. list_any q (f e)) n es
row_from f q n [] = refl
row_from f q n (e ∷ es) = find_row q n (f e) (rows_from f (n + 1) es) ∙ ap (cond (list_any q (f e)) (Some n)) (row_from f q (n + 1) es)

get_map : {X Y : Type 0} (g : X → Y) (xs : List X) (i : ℕ) → slice_get (map g xs) i ≡ option_map g (slice_get xs i)
get_map g [] i = refl
get_map g (x ∷ xs) zero = refl
get_map g (x ∷ xs) (suc i) = get_map g xs i

at_place : {X Y : Type 0} (p : X → Bool) (g : X → Y) (xs : List X) → option_and_then (slice_get (map g xs)) (position p xs) ≡ option_map g (find p xs)
at_place {X} {Y} p g xs = by (position p xs) refl
  where
    by : (o : Option ℕ) → position p xs ≡ o → option_and_then (slice_get (map g xs)) o ≡ option_map g (find p xs)
    by None e = ap (option_map g) (sym (missing_at p xs e))
    by (Some i) e = get_map g xs i ∙ ap (option_map g) (sym (find_position p xs i e))

-- the number of the first event that has a key of these
pub number_found : {K : Type 0} (f : Event → List K) (q : K → Bool) (es : List Event) (rows : Numbered K) → AreRows f es rows
    → option_and_then (slice_get rows.numbers) (position q rows.keys) ≡ position (λ e. list_any q (f e)) es
number_found {K} f q es rows h =
    ap (λ (l : List ℕ). option_and_then (slice_get l) (position q rows.keys)) h.numbers
    ∙ ap (λ (l : List K). option_and_then (slice_get (map (λ (r : K × ℕ). r.1) (rows_from f 0 es))) (position q l)) h.keys
    ∙ ap (option_and_then (slice_get (map (λ (r : K × ℕ). r.1) (rows_from f 0 es)))) (position-map q (λ (r : K × ℕ). r.0) (rows_from f 0 es))
    ∙ at_place (λ (r : K × ℕ). q r.0) (λ (r : K × ℕ). r.1) (rows_from f 0 es)
    ∙ row_from f q 0 es
    ∙ sym (position_from-zero (λ e. list_any q (f e)) es)

-- ---- facts

any_key : {K X : Type 0} (q : K → Bool) (keys : X → List K) (test : X → Bool) → ((x : X) → list_any q (keys x) ≡ test x) → (o : Option X)
    → list_any q (option_map_or keys o []) ≡ option_map_or test o false
any_key q keys test same None = refl
any_key q keys test same (Some x) = same x

-- the first event that says such a fact, by the keys of the fact
pub fact_found : {K X : Type 0} (g : Event → Option X) (keys : X → List K) (test : X → Bool) (q : K → Bool) (es : List Event) (rows : Numbered K)
    → AreRows (λ e. option_map_or keys (g e) []) es rows → ((x : X) → list_any q (keys x) ≡ test x)
    → option_and_then (slice_get rows.numbers) (position q rows.keys) ≡ position (λ e. option_map_or test (g e) false) es
fact_found {K} {X} g keys test q es rows h same =
    number_found (λ e. option_map_or keys (g e) []) q es rows h
    ∙ ap (λ (p : Event → Bool). position p es) (λ i e. any_key q keys test same (g e) i)

pub some_place : {X : Type 0} (q : X → Bool) (xs : List X) → is_some (position q xs) ≡ list_any q xs
some_place q xs = by (position q xs) (list_any q xs) refl refl
  where
    by : (o : Option ℕ) (b : Bool) → position q xs ≡ o → list_any q xs ≡ b → is_some o ≡ b
    by None false e k = refl
    by (Some i) true e k = refl
    by None true e k =
        let there = any_there q xs k in
        let fails = missing q xs (missing_at q xs e) there.0 there.1 there.2 in
        let passes = there.3 in
        absurd (cc)
    by (Some i) false e k =
        let there = found_at q xs i e in
        let fails = none_there q xs k i there.0 there.1 in
        let passes = there.2 in
        absurd (cc)

pub any_filtered : {E X : Type 0} (g : E → Option X) (test : X → Bool) (es : List E) → list_any (λ e. option_map_or test (g e) false) es ≡ list_any test (filter_map g es)
any_filtered g test [] = refl
any_filtered {E} {X} g test (e ∷ es) = by (g e) (any_filtered g test es)
  where
    by : (o : Option X) → list_any (λ e. option_map_or test (g e) false) es ≡ list_any test (filter_map g es)
        → (option_map_or test o false || list_any (λ e. option_map_or test (g e) false) es) ≡ list_any test (cons_option o (filter_map g es))
    by None more = more
    by (Some x) more = ap (λ (b : Bool). test x || b) more

-- whether there is one
pub some_fact : {X : Type 0} (g : Event → Option X) (test : X → Bool) (es : List Event) → is_some (position (λ e. option_map_or test (g e) false) es) ≡ list_any test (filter_map g es)
some_fact g test es = some_place (λ e. option_map_or test (g e) false) es ∙ any_filtered g test es

find_filtered : {E X : Type 0} (g : E → Option X) (test : X → Bool) (es : List E) → option_and_then g (find (λ e. option_map_or test (g e) false) es) ≡ find test (filter_map g es)
find_filtered g test [] = refl
find_filtered {E} {X} g test (e ∷ es) = by (g e) refl (find_filtered g test es)
  where
    on : (b : Bool) (x : X) → g e ≡ Some x → option_and_then g (find (λ e. option_map_or test (g e) false) es) ≡ find test (filter_map g es)
        → option_and_then g (cond b (Some e) (find (λ e. option_map_or test (g e) false) es)) ≡ cond b (Some x) (find test (filter_map g es))
    on true x is more = is
    on false x is more = more

    by : (o : Option X) → g e ≡ o → option_and_then g (find (λ e. option_map_or test (g e) false) es) ≡ find test (filter_map g es)
        → option_and_then g (cond (option_map_or test o false) (Some e) (find (λ e. option_map_or test (g e) false) es)) ≡ find test (cons_option o (filter_map g es))
    by None is more = more
    by (Some x) is more = on (test x) x is more

-- what the event of the number says
pub fact_at : {X : Type 0} (g : Event → Option X) (test : X → Bool) (es : List Event)
    → option_and_then (λ n. option_and_then g (slice_get es n)) (position (λ e. option_map_or test (g e) false) es) ≡ find test (filter_map g es)
fact_at {X} g test es = by (position (λ e. option_map_or test (g e) false) es) refl ∙ find_filtered g test es
  where
    by : (o : Option ℕ) → position (λ e. option_map_or test (g e) false) es ≡ o → option_and_then (λ n. option_and_then g (slice_get es n)) o ≡ option_and_then g (find (λ e. option_map_or test (g e) false) es)
    by None e = ap (option_and_then g) (sym (missing_at (λ e. option_map_or test (g e) false) es e))
    by (Some i) e = ap (option_and_then g) (sym (find_position (λ e. option_map_or test (g e) false) es i e))

-- ---- rows of one event, added one after the other

same_numbered : {K : Type 0} (a b : Numbered K) → a.keys ≡ b.keys → a.numbers ≡ b.numbers → a ≡ b
same_numbered a b k n i = record { keys = k i; numbers = n i }

with_more : {K : Type 0} (rows : Numbered K) (n : ℕ) (keys more : List K) → with_keys (with_keys rows n keys) n more ≡ with_keys rows n (keys ++ more)
with_more {K} rows n keys more =
    same_numbered (with_keys (with_keys rows n keys) n more) (with_keys rows n (keys ++ more))
    (append_assoc rows.keys keys more)
    (append_assoc rows.numbers (map (λ (k : K). n) keys) (map (λ (k : K). n) more)
    ∙ ap (λ (l : List ℕ). rows.numbers ++ l) (sym (map-append (λ (k : K). n) keys more)))

with_nothing : {K : Type 0} (rows : Numbered K) (n : ℕ) → with_keys rows n [] ≡ rows
with_nothing rows n = same_numbered (with_keys rows n []) rows (append-nil rows.keys) (append-nil rows.numbers)

pub next_keys : {K : Type 0} (now later goal : Numbered K) (f : ℕ → List K) (most i n : ℕ) → i < most
    → with_keys now n (flat_map f (drop i (range_with_len 0 most))) ≡ goal → later ≡ with_keys now n (f i)
    → with_keys later n (flat_map f (drop (i + 1) (range_with_len 0 most))) ≡ goal
next_keys {K} now later goal f most i n low so_far is =
    let rest = flat_map f (drop (i + 1) (range_with_len 0 most)) in
    ap (λ (r : Numbered K). with_keys r n rest) is
    ∙ with_more now n (f i) rest
    ∙ sym (ap (λ (l : List ℕ). with_keys now n (flat_map f l)) (range_here most i low))
    ∙ so_far

pub last_keys : {K : Type 0} (now goal : Numbered K) (f : ℕ → List K) (most i n : ℕ) → most ≤ i
    → with_keys now n (flat_map f (drop i (range_with_len 0 most))) ≡ goal → now ≡ goal
last_keys now goal f most i n past so_far =
    sym (with_nothing now n) ∙ sym (ap (λ (l : List ℕ). with_keys now n (flat_map f l)) (range_over most i past)) ∙ so_far

pub any_flat : {X Y : Type 0} (q : Y → Bool) (f : X → List Y) (xs : List X) → list_any q (flat_map f xs) ≡ list_any (λ x. list_any q (f x)) xs
any_flat q f [] = refl
any_flat q f (x ∷ xs) = list_any-append q (f x) (flat_map f xs) ∙ ap (λ (b : Bool). list_any q (f x) || b) (any_flat q f xs)

-- the one of a number among numbers in a row
pub any_one : (most j : ℕ) (b : Bool) (test : ℕ → Bool) → (most ≤ j → test j ≡ false) → list_any (λ i. b && (j == i && test i)) (range_with_len 0 most) ≡ (b && test j)
any_one most j b test past = by (list_any q (range_with_len 0 most)) (b && test j) refl refl
  where
    q : ℕ → Bool
    q i = b && (j == i && test i)

    here : test j ≡ true → j < most
    here t =
        elim (cases_lt j most) [
          | inl low ↦ low
          | inr high ↦ (let none = past high in absurd (cc))
        ]

    by : (c d : Bool) → list_any q (range_with_len 0 most) ≡ c → (b && test j) ≡ d → c ≡ d
    by true true e k = refl
    by false false e k = refl
    by true false e k =
        let there = any_there q (range_with_len 0 most) e in
        let parts = and_parts b (j == there.1 && test there.1) there.3 in
        let more = and_parts (j == there.1) (test there.1) parts.1 in
        let same : j ≡ there.1 = (Decides-eqb j there.1).0 more.0 in
        let passes : test j ≡ true = ap test same ∙ more.1 in
        let whole : (b && test j) ≡ true = (λ i. parts.0 i && passes i) in
        sym whole ∙ k
    by false true e k =
        let parts = and_parts b (test j) k in
        let fails = none_there q (range_with_len 0 most) e j j (range_at most j (here parts.1)) in
        let same : (j == j) ≡ true = (Decides-eqb j j).1 refl in
        let passes : q j ≡ true = (λ i. parts.0 i && (same i && parts.1 i)) in
        sym fails ∙ passes
