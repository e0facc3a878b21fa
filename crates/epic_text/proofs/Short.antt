-- The words of a line are no longer than the line.
use Rattle.std.proofs.Common.{◌≡◌, ℕ, ◌≤◌, suc, Bool, true, false, cond, List, [], ◌∷◌, length, map, take, nat_lt, arith}
use Rattle.std.proofs.lemmas.List.Elements.{All-nil, All-cons, All-head, All-tail, All-weaker, All-filter, All-same, All-take}
use Rattle.std.specs.Prelude.{Result, Ok, Err, IfOk}
use Rattle.std.specs.Borrow.{Bor}
use Rattle.std.specs.Global.{Vec}
use Rattle.std.specs.declared.alloc.AllocError.{AllocError}
use Rattle.std.specs.List.{All, slice_split, onto_first}
use Rattle.epic_text.specs.Lines.{is_blank, words}
use Rattle.epic_text.specs.RunScript.{is_comma}

abbrev IsWithin : ℕ → List ℕ → Type 0
IsWithin most word = length word ≤ most

onto_first_short : (x most : ℕ) (parts : List (List ℕ)) → All (IsWithin most) parts → All (IsWithin (suc most)) (onto_first x parts)
onto_first_short x most [] h = All-cons (IsWithin (suc most)) (x ∷ []) [] (omega arith) (All-nil (IsWithin (suc most)))
onto_first_short x most (part ∷ parts) h =
    let first : length part ≤ most = All-head (IsWithin most) part parts h in
    All-cons (IsWithin (suc most)) (x ∷ part) parts (omega (arith, first))
    (All-weaker (IsWithin most) (IsWithin (suc most)) (λ w k. omega (arith, k)) parts (All-tail (IsWithin most) part parts h))

-- the parts of a list are no longer than the list
pub parts_short : (p : ℕ → Bool) (xs : List ℕ) → All (IsWithin (length xs)) (slice_split p xs)
parts_short p [] = All-cons (IsWithin 0) [] [] (omega arith) (All-nil (IsWithin 0))
parts_short p (x ∷ xs) =
    let P : List ℕ → Type 0 = IsWithin (suc (length xs)) in
    let rest = parts_short p xs in
    elim (p x) as (λ b. All P (cond b ([] ∷ slice_split p xs) (onto_first x (slice_split p xs)))) [
      | true ↦ All-cons P [] (slice_split p xs) (omega arith)
          (All-weaker (IsWithin (length xs)) P (λ w k. omega (arith, k)) (slice_split p xs) rest)
      | false ↦ onto_first_short x (length xs) (slice_split p xs) rest
    ]

pub words_short : (line : List ℕ) → All (λ word. length word ≤ length line) (words line)
words_short line =
    All-filter (λ word. nat_lt 0 (length word)) (IsWithin (length line)) (slice_split is_blank line) (parts_short is_blank line)

-- the first four of the parts between commas
pub first_parts_short : (text : List ℕ) → All (λ part. length part ≤ length text) (take 4 (slice_split is_comma text))
first_parts_short text = All-take (IsWithin (length text)) 4 (slice_split is_comma text) (parts_short is_comma text)

-- what holds of all values of a list holds of all values that they stand for
pub All-from_map : {X Y : Type 0} (P : Y → Type 0) (f : X → Y) (xs : List X) → All P (map f xs) → All (λ x. P (f x)) xs
All-from_map P f [] h = All-nil (λ x. P (f x))
All-from_map P f (x ∷ xs) h =
    All-cons (λ x. P (f x)) x xs (All-head P (f x) (map f xs) h) (All-from_map P f xs (All-tail P (f x) (map f xs) h))

-- so is what was collected of short ones
pub collected_short : (most : ℕ) (parts : List (List ℕ)) → All (λ part. length part ≤ most) parts
    → (r : Result (Vec (Bor (List ℕ))) AllocError) → IfOk r (λ v. map (λ part. part.now) v.items ≡ parts)
    → IfOk r (λ v. All (λ part. length part.now ≤ most) v.items)
collected_short most parts short (Ok v) is =
    let P : List ℕ → Type 0 = IsWithin most in
    All-from_map P (λ (part : Bor (List ℕ)). part.now) v.items (All-same P (map (λ part. part.now) v.items) parts is short)
collected_short most parts short (Err e) is = is
