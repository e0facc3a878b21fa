-- How many acceptances a ledger file has, or its first fault.
use Rattle.std.specs.Prelude.{◌≡◌, ℕ, List, length, Result, Ok, Err, ⊤}
use Rattle.epic_record.specs.declared.fault.FileError.{FileError}
use Rattle.epic_record.specs.declared.fault.FileError.TheVariants as file_error
use Rattle.epic_record.specs.declared.item.Item.{Item}
use Rattle.epic_record.specs.LedgerFile.{Fault}
use Rattle.epic_record.specs.VerdictLines.{acceptances}

abbrev pub counted : Result (List Item) Fault → Result ℕ Fault
counted (Ok items) = Ok (length (acceptances items))
counted (Err fault) = Err fault

-- the number of acceptances of what a file tells, or the file's fault, but for memory
abbrev pub IsCounted : Result (List Item) Fault → Result ℕ FileError → Type 0
IsCounted told (Ok count) = counted told ≡ Ok count
IsCounted told (Err (file_error.Refused line kind)) = counted told ≡ Err (line, kind)
IsCounted told (Err file_error.OutOfMemory) = ⊤
