-- The fields of hops, and the bytes of a field.
use Rattle.std.proofs.Common.{◌≡◌, ℕ, zero, suc, ◌+◌, List, [], ◌∷◌, ◌++◌, take, get_or, refl, ap, ◌∙◌, sym, append_assoc, append-nil, add-one}
use Rattle.std.specs.List.{concat}

take_suc : (vs : List (List ℕ)) (j : ℕ) → concat (take j vs) ++ get_or vs j [] ≡ concat (take (suc j) vs)
take_suc [] zero = refl
take_suc [] (suc j) = refl
take_suc (v ∷ vs) zero = sym (append-nil v)
take_suc (v ∷ vs) (suc j) = append_assoc v (concat (take j vs)) (get_or vs j []) ∙ ap (λ m. v ++ m) (take_suc vs j)

-- one field more, which is empty where there is none
pub take_field : (vs : List (List ℕ)) (j : ℕ) → concat (take j vs) ++ get_or vs j [] ≡ concat (take (j + 1) vs)
take_field vs j = rw add-one (take_suc vs j)
