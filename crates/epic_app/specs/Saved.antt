-- What a run saves: a capture of what its steps emitted.
use Rattle.std.specs.Prelude.{ℕ, List, length, map, drop, flat_map}
use Rattle.epic_capture.specs.Records.{Captured}
use Rattle.epic_capture.specs.Saving.{saved_record}
use Rattle.epic_ledger.specs.History.{Emission}
use Rattle.epic_world.specs.Run.{Done}

-- an emission as a record at a moment
abbrev pub as_captured : ℕ → Emission → Captured
as_captured moment e = record { moment = moment; place = e.place; bytes = e.bytes }

-- the records of what a step emitted, at the moment after it
unfoldable pub captured_in : Done → List Captured
captured_in d = map (as_captured d.after.moment) (drop (length d.before.history.emissions) d.after.history.emissions)

-- their bytes in a capture
unfoldable pub saved_in : Done → List ℕ
saved_in d = flat_map saved_record (captured_in d)

-- the records of all steps
unfoldable pub captured_by : List Done → List Captured
captured_by steps = flat_map captured_in steps
