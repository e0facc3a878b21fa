-- The values of nodes after one of them has changed.
use Rattle.std.proofs.Common.{◌≡◌, ℕ, zero, suc, ◌<◌, refl, sym, ◌∙◌, ap, subst, List, [], ◌∷◌, length, get_or, set, Some, None, Option, inl, inr, arith, get_or-set_same, get_or-set_other}
use Rattle.std.specs.Prelude.{IsSome, is_some}
use Rattle.std.specs.List.{All}
use Rattle.std.proofs.lemmas.Bool.{cases_eq, true≢false}
use Rattle.std.proofs.lemmas.List.{get_or_past}
use Rattle.std.proofs.lemmas.Bool.{cases_lt}

module _ {T : Type 0} (values : List (Option T)) (node : ℕ) where
  -- a node with a value differs from one without
  pub differ : get_or values node None ≡ None → (xs : List ℕ) → All (λ (x : ℕ). IsSome (get_or values x None)) xs → All (λ (x : ℕ). x ≡ node → ⊥) xs
  differ e xs h k d lt f = true≢false (sym (h k d lt) ∙ ap (λ (i : ℕ). is_some (get_or values i None)) f ∙ ap (λ (o : Option T). is_some o) e)

  -- the other way round
  pub differ_from_live : IsSome (get_or values node None) → (xs : List ℕ) → All (λ (x : ℕ). get_or values x None ≡ None) xs → All (λ (x : ℕ). x ≡ node → ⊥) xs
  differ_from_live e xs h k d lt f = true≢false (sym e ∙ ap (λ (i : ℕ). is_some (get_or values i None)) (sym f) ∙ ap (λ (o : Option T). is_some o) (h k d lt))

  pub live_inside : IsSome (get_or values node None) → node < length values
  live_inside e = elim (cases_lt node (length values)) [
    | inl lt ↦ lt
    | inr le ↦ absurd (true≢false (sym e ∙ ap (λ (o : Option T). is_some o) (get_or_past values node None le)))
  ]

  pub kept_live : (value : T) → node < length values → (xs : List ℕ) → All (λ (x : ℕ). IsSome (get_or values x None)) xs → All (λ (x : ℕ). IsSome (get_or (set values node (Some value)) x None)) xs
  kept_live value there xs h k d lt = elim (cases_eq (get_or xs k d) node) [
    | inl e ↦ ap (λ (i : ℕ). is_some (get_or (set values node (Some value)) i None)) e ∙ ap (λ (o : Option T). is_some o) (get_or-set_same values node (Some value) None there)
    | inr ne ↦ ap (λ (o : Option T). is_some o) (get_or-set_other values node (get_or xs k d) (Some value) None ne) ∙ h k d lt
  ]

  pub others_kept : (value : Option T) (P : Option T → Type 0) → (xs : List ℕ) → All (λ (x : ℕ). P (get_or values x None)) xs → All (λ (x : ℕ). x ≡ node → ⊥) xs → All (λ (x : ℕ). P (get_or (set values node value) x None)) xs
  others_kept value P xs h ne k d lt = subst P (sym (get_or-set_other values node (get_or xs k d) value None (ne k d lt))) (h k d lt)

-- what is read inside depends on no default
pub read : {X : Type 0} (xs : List X) (i : ℕ) (d e : X) → i < length xs → get_or xs i d ≡ get_or xs i e
read [] i d e lt = absurd (omega arith)
read (x ∷ xs) zero d e lt = refl
read (x ∷ xs) (suc i) d e lt = read xs i d e (omega arith)
