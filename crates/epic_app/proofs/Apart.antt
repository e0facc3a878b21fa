-- The files of a run that are written have names of their own.
use Rattle.std.proofs.Common.{◌≡◌, ℕ, zero, suc, ◌<◌, ◌||◌, Bool, true, false, List, [], ◌∷◌, ◌++◌, length, get_or, Option, Some, None, Contains, bytes_eq, refl, sym, ap, subst, ◌∙◌, arith}
use Rattle.std.specs.List.{list_any}
use Rattle.std.specs.Option.{option_to_list}
use Rattle.std.proofs.lemmas.List.Elements.{Contains-append_left, Contains-append_right}
use Rattle.std.proofs.lemmas.Slice.Eq.{bytes_eq-Decides}
use Rattle.epic_words.specs.Request.{Run, RunRequest, is_shared, reads_of, shares_files, writes_of}
use Rattle.epic_app.specs.Keeping.{files_of, kept_by}
use Rattle.epic_app.specs.Kept.{names}

-- ---- names

pub names_are : (s l v : Option (List ℕ)) → names (files_of s l v) ≡ option_to_list s ++ (option_to_list l ++ option_to_list v)
unfolding files_of
names_are None None None = refl
names_are None None (Some c) = refl
names_are None (Some b) None = refl
names_are None (Some b) (Some c) = refl
names_are (Some a) None None = refl
names_are (Some a) None (Some c) = refl
names_are (Some a) (Some b) None = refl
names_are (Some a) (Some b) (Some c) = refl

-- they are those that the request writes
pub kept_names : (r : RunRequest) → names (kept_by r) ≡ writes_of (Run r)
kept_names r = names_are r.save r.ledger r.verdicts

-- ---- names that differ

or_left : (a b : Bool) → a || b ≡ false → a ≡ false
or_left true b is = is
or_left false b is = refl

or_right : (a b : Bool) → a || b ≡ false → b ≡ false
or_right true b is = absurd (cc)
or_right false b is = is

itself : (q : List ℕ) → bytes_eq q q ≡ true
itself q = (bytes_eq-Decides q q).1 refl

any_at : (q : List ℕ) (xs : List (List ℕ)) (k : ℕ) → k < length xs → get_or xs k q ≡ q → list_any (bytes_eq q) xs ≡ true
any_at q [] k within is = absurd (omega (arith, within))
any_at q (x ∷ xs) zero within is = ap (λ (y : List ℕ). bytes_eq q y || list_any (bytes_eq q) xs) is ∙ ap (λ b. b || list_any (bytes_eq q) xs) (itself q)
any_at q (x ∷ xs) (suc k) within is = or_true (bytes_eq q x) (list_any (bytes_eq q) xs) (any_at q xs k (omega (arith, within)) is)
  where
    or_true : (a b : Bool) → b ≡ true → a || b ≡ true
    or_true true b same = refl
    or_true false b same = same

-- a name that none has is none of them
none_of : (q : List ℕ) (xs : List (List ℕ)) → list_any (bytes_eq q) xs ≡ false → ¬ Contains xs q
none_of q xs none = λ (k, within, is). cc (none, any_at q xs k within is)

-- a file that is written is none that is read
unread_at : (reads writes : List (List ℕ)) (q : List ℕ) (k : ℕ) → is_shared reads writes ≡ false → k < length writes → get_or writes k q ≡ q → ¬ Contains reads q
unread_at reads [] q k apart within is = absurd (omega (arith, within))
unread_at reads (name ∷ writes) q zero apart within is =
    let none = or_left (list_any (bytes_eq name) (reads ++ writes)) (is_shared reads writes) apart in
    let P : List ℕ → Type 0 = λ n. ¬ Contains reads n in
    subst P is (λ there. none_of name (reads ++ writes) none (Contains-append_left reads writes name there))
unread_at reads (name ∷ writes) q (suc k) apart within is =
    unread_at reads writes q k (or_right (list_any (bytes_eq name) (reads ++ writes)) (is_shared reads writes) apart) (omega (arith, within)) is

pub spared : (r : RunRequest) (q : List ℕ) → shares_files (Run r) ≡ false → Contains (reads_of (Run r)) q → ¬ Contains (names (kept_by r)) q
spared r q apart read = λ kept.
    let (k, within, is) = subst (λ (all : List (List ℕ)). Contains all q) (kept_names r) kept in
    unread_at (reads_of (Run r)) (writes_of (Run r)) q k apart within is read

-- a file among those that are written is none of the others
behind_apart : (reads before after : List (List ℕ)) (q : List ℕ) → is_shared reads (before ++ q ∷ after) ≡ false → ¬ Contains after q
behind_apart reads [] after q apart = λ there.
    none_of q (reads ++ after) (or_left (list_any (bytes_eq q) (reads ++ after)) (is_shared reads after) apart) (Contains-append_right reads after q there)
behind_apart reads (name ∷ before) after q apart =
    behind_apart reads before after q (or_right (list_any (bytes_eq name) (reads ++ (before ++ q ∷ after))) (is_shared reads (before ++ q ∷ after)) apart)

before_apart : (reads before after : List (List ℕ)) (q : List ℕ) (k : ℕ) → is_shared reads (before ++ q ∷ after) ≡ false → k < length before → get_or before k q ≡ q → ⊥
before_apart reads [] after q k apart within is = absurd (omega (arith, within))
before_apart reads (name ∷ before) after q zero apart within is =
    let none = none_of name (reads ++ (before ++ q ∷ after)) (or_left (list_any (bytes_eq name) (reads ++ (before ++ q ∷ after))) (is_shared reads (before ++ q ∷ after)) apart) in
    none (Contains-append_right reads (before ++ q ∷ after) name (Contains-append_right before (q ∷ after) name (0, omega arith, sym is)))
before_apart reads (name ∷ before) after q (suc k) apart within is =
    before_apart reads before after q k (or_right (list_any (bytes_eq name) (reads ++ (before ++ q ∷ after))) (is_shared reads (before ++ q ∷ after)) apart)
    (omega (arith, within)) is

-- of a file, the names of those before it and of those behind it
pub record Apart (before after : List (List ℕ)) (q : List ℕ) : Type 0 where
  pub earlier : ¬ Contains before q
  pub later : ¬ Contains after q

pub apart : (reads before after : List (List ℕ)) (q : List ℕ) → is_shared reads (before ++ q ∷ after) ≡ false → Apart before after q
apart reads before after q is = record {
  earlier = λ (k, within, same). before_apart reads before after q k is within same;
  later = behind_apart reads before after q is;
}
