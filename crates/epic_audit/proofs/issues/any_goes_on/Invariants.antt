use Rattle.std.proofs.Common.{◌≡◌, drop}
use Rattle.std.specs.List.{list_any}
use Rattle.epic_ledger.specs.Facts.{facts_of}
use Rattle.epic_audit.specs.Verdicts.{is_child}
use Rattle.epic_audit.proofs.issues.any_goes_on.Given as goal

abbrev pub invariant-loop-index : goal.invariant-loop-index
invariant-loop-index l =
    let issues = (facts_of l.ledger.history).issues in
    list_any (is_child issues l.y l.z) (drop l.index issues) ≡ list_any (is_child issues l.y l.z) issues
