-- Words are cut where they were joined: at a byte below all of theirs.
use Rattle.std.proofs.Common.{◌≡◌, ℕ, ◌<◌, ◌≤◌, ◌==◌, ◌&&◌, Bool, true, false, List, [], ◌∷◌, ◌++◌, refl, ap, ◌∙◌, arith, nat_le}
use Rattle.std.specs.Prelude.{⊤}
use Rattle.std.specs.List.{All, list_all, join_with_byte, slice_split}
use Rattle.std.proofs.lemmas.Bool.{and_parts, and_from, eq-eqb}
use Rattle.std.proofs.lemmas.List.Elements.{All-cons, All-nil}
use Rattle.std.proofs.lemmas.List.Folds.{list_all-append}
use Rattle.std.proofs.lemmas.List.Splits.{slice_split_at, slice_split_none}
use Rattle.std.proofs.lemmas.Grind.{common_steps}

-- a printing byte of ASCII from this one on
abbrev pub above : ℕ → ℕ → Bool
above low c = nat_le low c && nat_le c 126

abbrev pub IsAbove : ℕ → List ℕ → Type 0
IsAbove low bytes = list_all (above low) bytes ≡ true

lower_too : (low high c : ℕ) → low ≤ high → above high c ≡ true → above low c ≡ true
lower_too low high c l h = grind (arith, common_steps)

pub other : (mark low c : ℕ) → mark < low → above low c ≡ true → (c == mark) ≡ false
other mark low c l h = grind (arith, common_steps)

pub weaker : (low high : ℕ) (bytes : List ℕ) → low ≤ high → IsAbove high bytes → IsAbove low bytes
weaker low high [] l h = refl
weaker low high (c ∷ cs) l h =
    let p = and_parts (above high c) (list_all (above high) cs) h in
    and_from (above low c) (list_all (above low) cs) (lower_too low high c l p.0) (weaker low high cs l p.1)

pub both_above : (low : ℕ) (xs ys : List ℕ) → IsAbove low xs → IsAbove low ys → IsAbove low (xs ++ ys)
both_above low xs ys h k =
    list_all-append (above low) xs ys ∙ and_from (list_all (above low) xs) (list_all (above low) ys) h k

pub next_above : (low c : ℕ) (cs : List ℕ) → above low c ≡ true → IsAbove low cs → IsAbove low (c ∷ cs)
next_above low c cs h k = and_from (above low c) (list_all (above low) cs) h k

-- the mark is none of them
pub unmarked : (mark low : ℕ) → mark < low → (bytes : List ℕ) → IsAbove low bytes → All (λ c. (c == mark) ≡ false) bytes
unmarked mark low l [] h = All-nil (λ c. (c == mark) ≡ false)
unmarked mark low l (c ∷ cs) h =
    let p = and_parts (above low c) (list_all (above low) cs) h in
    All-cons (λ d. (d == mark) ≡ false) c cs (other mark low c l p.0) (unmarked mark low l cs p.1)

-- of each word
abbrev pub AreAbove : ℕ → List (List ℕ) → Type 0
AreAbove low [] = ⊤
AreAbove low (word ∷ words) = IsAbove low word × AreAbove low words

pub all_weaker : (low high : ℕ) (words : List (List ℕ)) → low ≤ high → AreAbove high words → AreAbove low words
all_weaker low high [] l h = tt
all_weaker low high (word ∷ words) l h = (weaker low high word l h.0, all_weaker low high words l h.1)

pub cut : (mark low : ℕ) → mark < low → (word : List ℕ) (words : List (List ℕ)) → AreAbove low (word ∷ words)
    → slice_split (λ c. c == mark) (join_with_byte mark (word ∷ words)) ≡ word ∷ words
cut mark low l word [] h = slice_split_none (λ c. c == mark) word (unmarked mark low l word h.0)
cut mark low l word (next ∷ more) h =
    slice_split_at (λ c. c == mark) word mark (join_with_byte mark (next ∷ more)) (unmarked mark low l word h.0) (eq-eqb mark mark refl)
    ∙ ap (λ words. word ∷ words) (cut mark low l next more h.1)

-- and the words joined
pub joined_above : (mark low : ℕ) → above low mark ≡ true → (words : List (List ℕ)) → AreAbove low words → IsAbove low (join_with_byte mark words)
joined_above mark low m [] h = refl
joined_above mark low m (word ∷ []) h = h.0
joined_above mark low m (word ∷ next ∷ more) h =
    both_above low word (mark ∷ join_with_byte mark (next ∷ more)) h.0
    (next_above low mark (join_with_byte mark (next ∷ more)) m (joined_above mark low m (next ∷ more) h.1))
