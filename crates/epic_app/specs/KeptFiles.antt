-- What a run makes of the files that it writes besides its output.
use Rattle.std.specs.Prelude.{◌≡◌, ℕ, ◌⊎◌, List, ◌∷◌, ◌++◌, fold, Option, Some, Contains}
use Rattle.epic_topo.specs.Network.{Network}
use Rattle.epic_world.specs.Run.{Done}
use Rattle.epic_app.specs.Showing.{Showing}
use Rattle.epic_app.specs.Acts.{Act, after_act}
use Rattle.epic_app.specs.Doing.{run_acts}
use Rattle.epic_app.specs.Kept.{Kept, names, text_of}

-- a file holds a front of these bytes, or what it held before
abbrev pub IsFrontOrOld : List ℕ → Option (List ℕ) → Option (List ℕ) → Type 0
IsFrontOrOld bytes old new = (new ≡ old) ⊎ ((front : List ℕ) × (back : List ℕ) × (bytes ≡ front ++ back) × (new ≡ Some front))

-- When all acts of a run were done, a file among others, none of which has its name, has what it begins with and what each step adds,
-- in order. When those before some place were done it is a front of that, or what it was before.
pub record KeepsWhole (others : List Kept) (f : Kept) (more : List Kept) (show : Showing) (t : Network) (steps : List Done) : Type 0 where
  pub whole : (old : Option (List ℕ)) → fold (after_act f.name) old (run_acts (others ++ f ∷ more) show t steps) ≡ Some (text_of f t steps)
  pub front : (old : Option (List ℕ)) (before after : List Act) → run_acts (others ++ f ∷ more) show t steps ≡ before ++ after
      → IsFrontOrOld (text_of f t steps) old (fold (after_act f.name) old before)

-- so each file that a run writes; every other file stays
pub record FilesAreWhole : Type 0 where
  pub kept : (others : List Kept) (f : Kept) (more : List Kept) (show : Showing) (t : Network) (steps : List Done)
      → ¬ Contains (names others) f.name → ¬ Contains (names more) f.name → KeepsWhole others f more show t steps
  pub others : (kept : List Kept) (show : Showing) (t : Network) (steps : List Done) (q : List ℕ) → ¬ Contains (names kept) q
      → (old : Option (List ℕ)) (before after : List Act) → run_acts kept show t steps ≡ before ++ after
      → fold (after_act q) old before ≡ old
