use Rattle.std.proofs.Common.{◌≡◌, drop}
use Rattle.std.specs.List.{list_any}
use Rattle.epic_ledger.specs.Facts.{facts_of}
use Rattle.epic_holders.specs.Holders.{is_handed}
use Rattle.epic_holders.proofs.chains.any_handed.Given as goal

abbrev pub invariant-loop-index : goal.invariant-loop-index
invariant-loop-index l =
    let issues = (facts_of l.ledger.history).issues in
    list_any (is_handed issues l.x l.holder) (drop l.index issues) ≡ list_any (is_handed issues l.x l.holder) issues
