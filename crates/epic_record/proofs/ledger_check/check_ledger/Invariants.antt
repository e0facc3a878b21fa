use Rattle.std.proofs.Common.{◌≤◌, ◌+◌, length}
use Rattle.epic_record.specs.declared.ledger_check.TheConstants.{MAX_LEDGER}
use Rattle.epic_record.proofs.LedgerLaws.{Read}
use Rattle.epic_record.proofs.ledger_check.check_ledger.Given as goal

abbrev pub invariant-loop-rest : goal.invariant-loop-rest
invariant-loop-rest l = record {
  read : Read l.topo l.bytes l.rest l.number l.accepted l.places;
  few : l.accepted ≤ l.number;
  within : l.number + length l.rest ≤ length l.bytes;
  small : length l.bytes ≤ MAX_LEDGER;
}

abbrev pub decreases-loop-rest : goal.decreases-loop-rest
decreases-loop-rest l = length l.rest
