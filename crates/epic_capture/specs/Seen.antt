-- What a lent record says.
use Rattle.std.specs.Prelude.{Option, Some, None, Result, Ok, Err}
use Rattle.epic_capture.specs.declared.record.Record.{Record}
use Rattle.epic_capture.specs.Records.{Captured}

abbrev pub seen : {E : Type 0} → Result (Option Record) E → Result (Option Captured) E
seen (Ok (Some r)) = Ok (Some (record { moment = r.moment; place = r.place; bytes = r.bytes.now }))
seen (Ok None) = Ok None
seen (Err e) = Err e
