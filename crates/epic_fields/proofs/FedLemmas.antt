-- Pieces of a message, fed one after the other.
use Rattle.std.proofs.Common.{◌≡◌, ℕ, ◌+◌, ◌<◌, ◌≤◌, List, [], ◌∷◌, ◌++◌, length, take, map, get_or, All, refl, ap, sym, subst, ◌∙◌}
use Rattle.std.specs.List.{flat_map, concat}
use Rattle.std.proofs.lemmas.List.{append_assoc, append-nil, take_more, take_all}
use Rattle.std.proofs.lemmas.Grind.{flat_map-append}
use Rattle.epic_cmac.specs.Pieces.{Fed}

-- the state with more bytes behind its message
abbrev pub fed : Fed → List ℕ → Fed
fed s bytes = record s { message = s.message ++ bytes }

-- two pieces are fed like one
pub fed_twice : (s t u : Fed) (a b : List ℕ) → t ≡ fed s a → u ≡ fed t b → u ≡ fed s (a ++ b)
fed_twice s t u a b first second =
    second ∙ (ap (λ x. fed x b) first ∙ ap (λ m. record s { message = m }) (append_assoc s.message a b))

-- nothing was fed yet
pub fed_none : (s : Fed) → s ≡ fed s []
fed_none s = ap (λ m. record s { message = m }) (sym (append-nil s.message))

one_more : {X : Type 0} (f : X → List ℕ) (xs : List X) (i : ℕ) (d : X) → i < length xs
    → flat_map f (take i xs) ++ f (get_or xs i d) ≡ flat_map f (take (i + 1) xs)
one_more f xs i d below =
    ap (λ m. flat_map f (take i xs) ++ m) (sym (append-nil (f (get_or xs i d))))
    ∙ (sym (flat_map-append f (take i xs) (get_or xs i d ∷ []))
    ∙ ap (flat_map f) (sym (take_more xs i d below)))

-- the next item of a row is fed
pub fed_more : {X : Type 0} (f : X → List ℕ) (xs : List X) (i : ℕ) (d : X) (s t u : Fed) → i < length xs
    → t ≡ fed s (flat_map f (take i xs)) → u ≡ fed t (f (get_or xs i d)) → u ≡ fed s (flat_map f (take (i + 1) xs))
fed_more f xs i d s t u below so_far next =
    fed_twice s t u (flat_map f (take i xs)) (f (get_or xs i d)) so_far next ∙ ap (fed s) (one_more f xs i d below)

-- every item of a row was fed
pub fed_all : {X : Type 0} (f : X → List ℕ) (xs : List X) (n : ℕ) (s t : Fed) → length xs ≤ n
    → t ≡ fed s (flat_map f (take n xs)) → t ≡ fed s (flat_map f xs)
fed_all f xs n s t past so_far = so_far ∙ ap (λ ys. fed s (flat_map f ys)) (take_all n xs past)

-- pieces are joined as they are fed
pub concat-map : {X : Type 0} (f : X → List ℕ) (xs : List X) → flat_map f xs ≡ concat (map f xs)
concat-map f [] = refl
concat-map f (x ∷ xs) = ap (λ m. f x ++ m) (concat-map f xs)

-- a bound for all items that are one number
pub All-bounded : {X : Type 0} (g : X → ℕ) (n m : ℕ) (xs : List X) → n ≤ m → All (λ x. g x ≡ n) xs → All (λ x. g x ≤ m) xs
All-bounded g n m xs small same k d below = subst (λ y. y ≤ m) (sym (same k d below)) small
