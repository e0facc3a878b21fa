-- What is handed to what takes records.
use Rattle.std.specs.Prelude.{List, [], ◌∷◌, ◌++◌, Result, Ok, Err}
use Rattle.epic_capture.specs.Records.{Captured}
use Rattle.epic_capture.specs.declared.record.Record.{Record}
use Rattle.epic_ports.specs.declared.error.PortError.{PortError}

-- what a lent record says
abbrev pub captured_of : Record → Captured
captured_of r = record { moment = r.moment; place = r.place; bytes = r.bytes.now }

-- a record was taken behind others, or the taker stopped at it
abbrev pub Takes : {X : Type 0} → Captured → (List Captured → Type 0) → (Captured → PortError → Type 0) → List Captured → Result X PortError → Type 0
Takes y took stopped xs (Ok x) = took (xs ++ y ∷ [])
Takes y took stopped xs (Err e) = stopped y e
