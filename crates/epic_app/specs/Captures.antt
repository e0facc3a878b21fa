-- The commands that a capture's records are, and the numbers that a report shows for steps.
use Rattle.std.specs.Prelude.{ℕ, ◌+◌, ◌-◌, ◌/◌, min, drop, List, [], ◌∷◌, ◌++◌, flat_map, ⊤}
use Rattle.std.specs.List.{All}
use Rattle.epic_num.specs.declared.command.Command.{Command}
use Rattle.epic_num.specs.declared.command.Command.TheVariants.{At, Turn, Arrive}
use Rattle.epic_num.specs.declared.passed.Place.{Place}
use Rattle.epic_num.specs.declared.passed.Place.TheVariants.{Router, Host}
use Rattle.epic_capture.specs.Records.{Captured}
use Rattle.epic_feed.specs.Forms.{records_in}
use Rattle.epic_model.specs.World.{Fits}
use Rattle.epic_rerun.specs.Rerun.{NamesFit}
use Rattle.epic_app.specs.Readings.{Reading, Whole, Failed, Unread}
use Rattle.epic_words.specs.Request.{Request, Hop, Run, Gen, Judge}

-- a packet comes to the place where it is due
abbrev pub due : Place → List ℕ → Command
due (Router asn iface) bytes = Turn asn iface bytes
due (Host host) bytes = Arrive host bytes

-- a record's moment comes, and then its packet
abbrev pub record_commands : Captured → List Command
record_commands x = At x.moment ∷ due x.place x.bytes ∷ []

unfoldable pub records_commands : List Captured → List Command
records_commands records = flat_map record_commands records

-- the commands of a run: those of its script, and then two for each record
unfoldable pub run_commands : List Command → List Captured → List Command
run_commands script records = script ++ records_commands records

-- The number that is shown for a step, where a script has so many: behind the script's steps the two of a record count as one.
unfoldable pub shown : ℕ → ℕ → ℕ
shown script step = min script step + (step - script) / 2

-- of a capture that was read whole the moments, the bytes and the hosts fit their types
abbrev pub RecordsFit : Reading → Type 0
RecordsFit (Whole bytes) =
    All Fits (records_commands (records_in bytes).items) × All NamesFit (records_commands (records_in bytes).items)
RecordsFit (Failed front) = ⊤
RecordsFit Unread = ⊤

-- those of a command's readings that are of a capture: a run's behind its topology and its script
abbrev pub captures_of : Request → List Reading → List Reading
captures_of (Hop key name) readings = []
captures_of (Run r) readings = drop 2 readings
captures_of (Gen seed packets) readings = []
captures_of (Judge topology ledger verdicts) readings = []
