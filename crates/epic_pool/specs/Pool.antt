-- A pool: nodes with values, each in one list of either of two families.
use Rattle.std.specs.Prelude.{ℕ, ◌==◌, not, List, [], ◌∷◌, ◌++◌, map, Option, Some, None, refl, slice_index_or, slice_set}
use Rattle.std.specs.List.{filter}
use Rattle.std.specs.Coded.{Coded, code_by, coded×, coded_ℕ, coded_list, coded_option}

-- the nodes of each list of both families, in order; the value of each node by its number; and for how many more there is room
pub record PoolState (T : Type 0) : Type 0 where
  pub a : List (List ℕ)
  pub b : List (List ℕ)
  pub values : List (Option T)
  pub spare : ℕ

-- a pool is stored as the tuple of its fields
abbrev pub pool_code : {T : Type 0} → Coded T → Coded (PoolState T)
pool_code {T} code =
    code_by
    (List (List ℕ) × (List (List ℕ) × (List (Option T) × ℕ)))
    (coded× (coded_list (coded_list coded_ℕ)) (coded× (coded_list (coded_list coded_ℕ)) (coded× (coded_list (coded_option code)) coded_ℕ)))
    (λ s. (s.a, (s.b, (s.values, s.spare))))
    (λ p. record { a = p.0; b = p.1.0; values = p.1.1.0; spare = p.1.1.1 })
    (λ _. refl)

-- the value of a node; the nodes that have one are live
abbrev pub value_of : {T : Type 0} → PoolState T → ℕ → Option T
value_of p node = slice_index_or p.values node None

abbrev pub list_of : List (List ℕ) → ℕ → List ℕ
list_of lists l = slice_index_or lists l []

-- the lists with one more node at the end of one of them
abbrev pub appended : List (List ℕ) → ℕ → ℕ → List (List ℕ)
appended lists l node = slice_set lists l (list_of lists l ++ node ∷ [])

-- the lists without a node
abbrev pub without : ℕ → List (List ℕ) → List (List ℕ)
without node lists = map (filter (λ x. not (x == node))) lists

abbrev pub first_of : List ℕ → Option ℕ
first_of [] = None
first_of (x ∷ xs) = Some x
