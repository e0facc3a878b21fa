-- The parts of a key's name.
use Rattle.std.proofs.Common.{◌≡◌, ℕ, ◌≤◌, List, [], ◌∷◌, length, take, refl, ap, ◌∙◌}
use Rattle.std.proofs.lemmas.List.Elements.{All-take}
use Rattle.std.specs.List.{All, slice_split}
use Rattle.epic_text.proofs.Short.{parts_short}
use Rattle.epic_text.specs.RunScript.{is_comma}
use Rattle.epic_record.specs.VerdictWords.{key_named, key_of}

pub first_parts_short : (text : List ℕ) → All (λ part. length part ≤ length text) (take 7 (slice_split is_comma text))
first_parts_short text = All-take (λ part. length part ≤ length text) 7 (slice_split is_comma text) (parts_short is_comma text)

-- no key's name has more than six parts
key_of_first : (parts : List (List ℕ)) → key_of (take 7 parts) ≡ key_of parts
key_of_first [] = refl
key_of_first (a ∷ []) = refl
key_of_first (a ∷ b ∷ []) = refl
key_of_first (a ∷ b ∷ c ∷ []) = refl
key_of_first (a ∷ b ∷ c ∷ d ∷ []) = refl
key_of_first (a ∷ b ∷ c ∷ d ∷ e ∷ []) = refl
key_of_first (a ∷ b ∷ c ∷ d ∷ e ∷ f ∷ []) = refl
key_of_first (a ∷ b ∷ c ∷ d ∷ e ∷ f ∷ g ∷ more) = refl

pub key_by_first : (text : List ℕ) (parts : List (List ℕ)) → parts ≡ take 7 (slice_split is_comma text) → key_of parts ≡ key_named text
unfolding key_named
key_by_first text parts is = ap key_of is ∙ key_of_first (slice_split is_comma text)
