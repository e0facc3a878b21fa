-- What is printed of a ledger between two marks, and of passes in turn.
use Rattle.std.proofs.Common.{◌≡◌, ◌⊎◌, ℕ, zero, suc, ◌+◌, ◌-◌, ◌<◌, ◌≤◌, List, [], ◌∷◌, ◌++◌, length, map, take, drop, get_or, slice_get, Option, Some, None, inl, inr, refl, sym, ap, ◌∙◌, append_assoc, append-nil, add-one, arith}
use Rattle.std.proofs.lemmas.List.{drop_more, drop_all}
use Rattle.std.proofs.lemmas.List.Concat.{flat_map-append}
use Rattle.std.proofs.lemmas.Option.{get_or_from_slice_get, slice_get_cases, slice_get_within}
use Rattle.epic_ledger.specs.History.{Emission, History, emission_at}
use Rattle.epic_ledger.specs.declared.event.Event.{Event}
use Rattle.epic_ledger.proofs.Growing.{emission_at-suc}
use Rattle.epic_record.specs.declared.item.Item.{Item}
use Rattle.epic_record.specs.declared.item.Item.TheVariants as items
use Rattle.epic_record.specs.LedgerText.{item_line, ledger_text}
use Rattle.epic_record.specs.Passing.{emitted_from}
use Rattle.epic_num.specs.declared.passed.Passed.{Passed}
use Rattle.epic_app.specs.declared.telling.Mark.{Mark}
use Rattle.epic_app.specs.Noting.{Coming, coming}
use Rattle.epic_app.specs.Telling.{after_pass, between, emitted_between, happened_between, mark_of, told_by_pass, told_from, told_since}

-- ---- parts of lists

more : {A : Type 0} (xs : List A) (n m : ℕ) (x : A) → n < m → slice_get xs n ≡ Some x
    → take (m - n) (drop n xs) ≡ x ∷ take (m - (n + 1)) (drop (n + 1) xs)
more xs n m x below is =
    let count : m - n ≡ suc (m - (n + 1)) = omega (arith, below) in
    (λ k. take (count k) (drop_more xs n x (slice_get_within xs n x is) k))
    ∙ ap (λ y. y ∷ take (m - (n + 1)) (drop (n + 1) xs)) (get_or_from_slice_get xs n x x is)

take_nothing : {A : Type 0} (k : ℕ) → take {A = A} k [] ≡ []
take_nothing zero = refl
take_nothing (suc k) = refl

no_more : {A : Type 0} (xs : List A) (n k : ℕ) → slice_get xs n ≡ None → take k (drop n xs) ≡ []
no_more {A} xs n k none = by (slice_get_cases xs n).1
  where
    by : ((x : A) × (n < length xs) × (slice_get xs n ≡ Some x) × (get_or xs n x ≡ x)) ⊎ ((length xs ≤ n) × (slice_get xs n ≡ None)) → take k (drop n xs) ≡ []
    by (inl (x, inside, is, same)) = absurd (cc (is, none))
    by (inr (past, is)) = ap (take k) (drop_all n xs past) ∙ take_nothing k

at_end : {A : Type 0} (xs : List A) (n m : ℕ) → m ≤ n → take (m - n) (drop n xs) ≡ []
at_end xs n m past = let none : m - n ≡ 0 = omega (arith, past) in ap (λ k. take k (drop n xs)) none

-- ---- emissions

at_place : (es : List Emission) (n : ℕ) (o : Option Emission) → emission_at es (n + 1) ≡ o → slice_get es n ≡ o
at_place es n o is = sym (ap (emission_at es) (add-one n) ∙ emission_at-suc es n) ∙ is

pub emitted_more : (h : History) (n m : ℕ) (e : Emission) → n < m → emission_at h.emissions (n + 1) ≡ Some e
    → ledger_text (emitted_between h n m) ≡ item_line (items.Emission (n + 1) e.place e.bytes) ++ ledger_text (emitted_between h (n + 1) m)
unfolding ledger_text
emitted_more h n m e below is = ap (λ es. ledger_text (emitted_from (n + 1) es)) (more h.emissions n m e below (at_place h.emissions n (Some e) is))

pub emitted_none : (h : History) (n m : ℕ) → emission_at h.emissions (n + 1) ≡ None → ledger_text (emitted_between h n m) ≡ []
unfolding ledger_text
emitted_none h n m none = ap (λ es. ledger_text (emitted_from (n + 1) es)) (no_more h.emissions n (m - n) (at_place h.emissions n None none))

pub emitted_end : (h : History) (n m : ℕ) → m ≤ n → ledger_text (emitted_between h n m) ≡ []
unfolding ledger_text
emitted_end h n m past = ap (λ es. ledger_text (emitted_from (n + 1) es)) (at_end h.emissions n m past)

-- ---- events

pub happened_more : (h : History) (n m : ℕ) (e : Event) → n < m → slice_get h.events n ≡ Some e
    → ledger_text (happened_between h n m) ≡ item_line (items.Event e) ++ ledger_text (happened_between h (n + 1) m)
unfolding ledger_text
happened_more h n m e below is = ap (λ es. ledger_text (map (λ x. items.Event x) es)) (more h.events n m e below is)

pub happened_none : (h : History) (n m : ℕ) → slice_get h.events n ≡ None → ledger_text (happened_between h n m) ≡ []
unfolding ledger_text
happened_none h n m none = ap (λ es. ledger_text (map (λ x. items.Event x) es)) (no_more h.events n (m - n) none)

pub happened_end : (h : History) (n m : ℕ) → m ≤ n → ledger_text (happened_between h n m) ≡ []
unfolding ledger_text
happened_end h n m past = ap (λ es. ledger_text (map (λ x. items.Event x) es)) (at_end h.events n m past)

-- ---- texts

pub text_both : (a b : List Item) → ledger_text (a ++ b) ≡ ledger_text a ++ ledger_text b
unfolding ledger_text
text_both a b = flat_map-append item_line a b

-- a text so far, a line more, and what is to come
pub line_more : (so_far now line rest all : List ℕ) → now ≡ so_far ++ line → all ≡ line ++ rest → now ++ rest ≡ so_far ++ all
line_more so_far now line rest all is parts =
    ap (λ text. text ++ rest) is ∙ (append_assoc so_far line rest ∙ ap (λ text. so_far ++ text) (sym parts))

-- nothing is to come
pub line_end : (so_far rest all : List ℕ) → so_far ++ rest ≡ all → rest ≡ [] → so_far ≡ all
line_end so_far rest all is none = sym (append-nil so_far) ∙ (ap (λ text. so_far ++ text) (sym none) ∙ is)

-- ---- passes in turn

pub coming_more : (emissions : ℕ → List ℕ) (came : List ℕ) (ps : List Passed) (i : ℕ) (p : Passed) → i < length ps → p ≡ get_or ps i p
    → coming emissions came (drop i ps) ≡ record { came = came; passed = p } ∷ coming emissions (emissions p.emission) (drop (i + 1) ps)
coming_more emissions came ps i p within is =
    ap (coming emissions came) (drop_more ps i p within ∙ ap (λ x. x ∷ drop (i + 1) ps) (sym is))

pub pass_more : (h : History) (m : Mark) (x : Coming) (xs : List Coming)
    → ledger_text (told_from h m (x ∷ xs)) ≡ ledger_text (told_by_pass h m x) ++ ledger_text (told_from h (after_pass m x.passed) xs)
unfolding told_from
pass_more h m x xs = text_both (told_by_pass h m x) (told_from h (after_pass m x.passed) xs)

pub no_passes : (h : History) (m : Mark) → ledger_text (told_from h m []) ≡ []
unfolding told_from ledger_text
no_passes h m = refl

pub since_none : (h : History) (m : Mark) (emissions : ℕ → List ℕ) (came : List ℕ) (ps : List Passed) → length ps ≡ 0
    → told_since h m (coming emissions came ps) ≡ between h m (mark_of h)
since_none h m emissions came [] none = refl
since_none h m emissions came (p ∷ ps) none = absurd (omega (arith, none))

pub since_some : (h : History) (m : Mark) (emissions : ℕ → List ℕ) (came : List ℕ) (ps : List Passed) → 0 < length ps
    → told_since h m (coming emissions came ps) ≡ told_from h m (coming emissions came ps)
since_some h m emissions came [] some = absurd (omega (arith, some))
since_some h m emissions came (p ∷ ps) some = refl
