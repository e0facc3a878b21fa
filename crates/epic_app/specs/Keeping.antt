-- The files that a run is asked to write.
use Rattle.std.specs.Prelude.{ℕ, List, [], ◌++◌, map, Option, option_map}
use Rattle.std.specs.Option.{option_to_list}
use Rattle.epic_capture.specs.Saving.{file_head}
use Rattle.epic_words.specs.Request.{RunRequest}
use Rattle.epic_app.specs.declared.keeping.Keeping.{Keeping}
use Rattle.epic_app.specs.Kept.{Kept}
use Rattle.epic_rerun.specs.Ledgers.{step_ledger, step_verdicts}
use Rattle.epic_app.specs.Saved.{saved_in}

-- the capture of what is emitted
abbrev pub saved_file : List ℕ → Kept
saved_file name = record { name = name; head = file_head; adds = λ t d. saved_in d }

-- what happened
abbrev pub ledger_file : List ℕ → Kept
ledger_file name = record { name = name; head = []; adds = λ t d. step_ledger d }

-- what was said of it
abbrev pub verdict_file : List ℕ → Kept
verdict_file name = record { name = name; head = []; adds = step_verdicts }

-- those that are named, in the order in which they are made and written
unfoldable pub files_of : Option (List ℕ) → Option (List ℕ) → Option (List ℕ) → List Kept
files_of save ledger verdicts =
    map saved_file (option_to_list save)
    ++ (map ledger_file (option_to_list ledger) ++ map verdict_file (option_to_list verdicts))

-- those that are asked for
abbrev pub kept_by : RunRequest → List Kept
kept_by r = files_of r.save r.ledger r.verdicts

-- those of these names
abbrev pub kept_in : Keeping → List Kept
kept_in k =
    files_of (option_map (λ name. name.now) k.save) (option_map (λ name. name.now) k.ledger)
    (option_map (λ name. name.now) k.verdicts)
