use Rattle.epic_record.specs.LedgerFile.{ledger_file}
use Rattle.epic_judge.proofs.BothLaws.{has_items, has_fault}
use Rattle.epic_judge.proofs.both_files.checked.Goals as goal

pub returns-in-Ok : goal.returns-in-Ok
returns-in-Ok c = has_items (ledger_file c.args.topo.now c.args.ledger.now) c.in-Ok.field-0 c.in-Ok.ensures

pub returns-in-Err-Refused : goal.returns-in-Err-Refused
returns-in-Err-Refused c =
    has_fault (ledger_file c.args.topo.now c.args.ledger.now) (c.in-Err-Refused.line, c.in-Err-Refused.kind) (rw (c.in-Err-Refused.field-0-is) at c.in-Err-Refused.ensures)
