-- Places in an order, seen from what is sought: it says on which side of each place it stands.
use Rattle.std.specs.Prelude.{◌≡◌, ℕ, List, [], ◌∷◌, Option, find}
use Rattle.std.specs.List.{slice_index}
use Rattle.std.specs.Ordering.{is_eq, nat_cmp, ordering_then}
use Rattle.std.specs.declared.cmp.Ordering.{Ordering}
use Rattle.std.specs.declared.cmp.Ordering.TheVariants.{Less, Equal, Greater}

-- it stands before each of the places
abbrev pub IsBefore : (ℕ → Ordering) → List ℕ → Type 0
IsBefore side [] = Unit {0}
IsBefore side (p ∷ ps) = (side p ≡ Less) × IsBefore side ps

-- one fact where it stands behind, and another where it stands before or there
abbrev pub Behind : Ordering → Type 0 → Type 0 → Type 0
Behind Less past upto = upto
Behind Equal past upto = upto
Behind Greater past upto = past

-- it stands behind the places up to some point, then at one place or none, and before all that follow
abbrev pub IsCut : (ℕ → Ordering) → List ℕ → Type 0
IsCut side [] = Unit {0}
IsCut side (p ∷ ps) = Behind (side p) (IsCut side ps) (IsBefore side ps)

-- the place where it stands
abbrev pub found : (ℕ → Ordering) → List ℕ → Option ℕ
found side ps = find (λ p. is_eq (side p)) ps

abbrev pub put_by : Ordering → ℕ → ℕ → List ℕ → List ℕ → List ℕ
put_by Less n p ps more = n ∷ p ∷ ps
put_by Equal n p ps more = p ∷ ps
put_by Greater n p ps more = p ∷ more

-- the places, and one more where it stands, unless a place stands there
abbrev pub put : (ℕ → Ordering) → ℕ → List ℕ → List ℕ
put side n [] = n ∷ []
put side n (p ∷ ps) = put_by (side p) n p ps (put side n ps)

-- the side by the tags of the places first: `tag` is that of what is sought
abbrev pub by_tag : List ℕ → ℕ → (ℕ → Ordering) → ℕ → Ordering
by_tag tags tag side p = ordering_then (nat_cmp tag (slice_index tags p)) (side p)

-- A tree of places: they stand from left to right, and each that was added has a tag, linked or not. For so many more
-- there is room.
pub record Ordered : Type 0 where
  pub places : List ℕ
  pub tags : List ℕ
  pub spare : ℕ
