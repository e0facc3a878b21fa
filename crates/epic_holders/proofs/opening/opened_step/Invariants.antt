use Rattle.std.proofs.Common.{◌≡◌, drop}
use Rattle.std.specs.Prelude.{filter_map}
use Rattle.epic_ledger.specs.Facts.{as_reveal, facts_of}
use Rattle.epic_audit.specs.Reveals.{lesser}
use Rattle.epic_holders.specs.Makers.{least_opened}
use Rattle.epic_holders.proofs.opening.opened_step.Given as goal

abbrev pub invariant-loop-index : goal.invariant-loop-index
invariant-loop-index l =
    let h = l.ledger.history in
    lesser l.least (least_opened (facts_of h) l.x (filter_map as_reveal (drop l.index h.events)))
    ≡ least_opened (facts_of h) l.x (filter_map as_reveal h.events)
