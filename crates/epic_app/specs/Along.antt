-- Something made of each step of a run in turn, from the steps before it.
use Rattle.std.specs.Prelude.{List, [], ◌∷◌, ◌++◌}
use Rattle.epic_world.specs.Run.{Done}

-- of these steps, which come behind those
abbrev pub along : {A : Type 0} → (List Done → Done → List A) → List Done → List Done → List A
along f before [] = []
along f before (d ∷ steps) = f before d ++ along f (before ++ d ∷ []) steps
