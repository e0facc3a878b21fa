use Rattle.std.proofs.Common.{◌≡◌, drop}
use Rattle.std.specs.List.{list_any}
use Rattle.epic_ledger.specs.Facts.{facts_of}
use Rattle.epic_holders.specs.Found.{is_sender_at}
use Rattle.epic_holders.proofs.holding.any_sender.Given as goal

abbrev pub invariant-loop-index : goal.invariant-loop-index
invariant-loop-index l =
    let h = l.ledger.history in
    list_any (is_sender_at (facts_of h).issues l.x l.holder h.emissions) (drop l.index h.events)
    ≡ list_any (is_sender_at (facts_of h).issues l.x l.holder h.emissions) h.events
