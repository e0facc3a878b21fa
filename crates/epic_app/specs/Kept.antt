-- The files that a run writes besides its output, in general: each is made with what it begins with, and grows with every step.
use Rattle.std.specs.Prelude.{ℕ, List, ◌++◌, map, flat_map}
use Rattle.epic_topo.specs.Network.{Network}
use Rattle.epic_world.specs.Run.{Done}
use Rattle.epic_app.specs.Acts.{Act, appends, creates}

pub record Kept : Type 0 where
  pub name : List ℕ
  -- what it begins with
  pub head : List ℕ
  -- what a step over a topology adds
  pub adds : Network → Done → List ℕ

abbrev pub names : List Kept → List (List ℕ)
names kept = map (λ f. f.name) kept

-- a file after these steps
abbrev pub text_of : Kept → Network → List Done → List ℕ
text_of f t steps = f.head ++ flat_map (f.adds t) steps

-- a file is made, with what it begins with
abbrev pub opened : Kept → List Act
opened f = creates f.name ++ appends f.name f.head

-- the files are made one after the other
unfoldable pub opening : List Kept → List Act
opening kept = flat_map opened kept

-- what a step adds to a file
abbrev pub grown : Network → Done → Kept → List Act
grown t d f = appends f.name (f.adds t d)

-- to the files one after the other
unfoldable pub adding : List Kept → Network → Done → List Act
adding kept t d = flat_map (grown t d) kept
