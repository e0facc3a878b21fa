-- Private: serves proofs of this crate alone; no public contract cites it.
-- What is made of the files that may be named, one after the other.
use Rattle.std.specs.Prelude.{ℕ, List, [], ◌++◌, Option, Some, None, option_map, Result, Contains, ⊤}
use Rattle.epic_ports.specs.Files.{Files}
use Rattle.epic_ports.specs.declared.error.PortError.{PortError}
use Rattle.epic_app.specs.declared.keeping.Keeping.{Keeping}
use Rattle.epic_app.specs.Acts.{Act, appends, creates, world}
use Rattle.epic_app.specs.Kept.{Kept, names}
use Rattle.epic_app.specs.Performing.{Performs, Stays}

-- a file that is named is one of these
abbrev pub IsNamedIn : Option (List ℕ) → List Kept → Type 0
IsNamedIn None kept = ⊤
IsNamedIn (Some name) kept = Contains (names kept) name

-- it is made
abbrev pub made_of : Option (List ℕ) → List Act
made_of None = []
made_of (Some name) = creates name

-- a text is added to it
abbrev pub added_to : Option (List ℕ) → List ℕ → List Act
added_to None text = []
added_to (Some name) text = appends name text

-- texts are added to the three
abbrev pub all_added : Keeping → List ℕ → List ℕ → List ℕ → List Act
all_added k saved ledger verdicts =
    added_to (option_map (λ name. name.now) k.save) saved
    ++ (added_to (option_map (λ name. name.now) k.ledger) ledger
    ++ added_to (option_map (λ name. name.now) k.verdicts) verdicts)

-- acts of the store alone, on files that are kept; the output is as it was
abbrev pub StoreActs : {X : Type 0} → List Kept → List Act → Option Files → (List ℕ → ℕ) → (List ℕ → ℕ)
    → Option Files → (List ℕ → ℕ) → (List ℕ → ℕ) → Result X PortError → Type 0
StoreActs kept acts contents reads writes now reads_now writes_now result =
    (written : Option (List ℕ)) (faults : ℕ)
    → Performs kept acts (world contents reads writes written faults) (world now reads_now writes_now written faults) result
    × Stays kept (world contents reads writes written faults) (world now reads_now writes_now written faults)
