use Rattle.std.proofs.Common.{◌≡◌, drop}
use Rattle.std.specs.Prelude.{find}
use Rattle.epic_ledger.specs.Facts.{facts_of}
use Rattle.epic_audit.specs.Verdicts.{is_twin}
use Rattle.epic_audit.proofs.issues.first_twin.Given as goal

abbrev pub invariant-loop-index : goal.invariant-loop-index
invariant-loop-index l =
    let issues = (facts_of l.ledger.history).issues in
    find (λ i. is_twin l.topo l.x i.name) (drop l.index issues) ≡ find (λ i. is_twin l.topo l.x i.name) issues
