use Rattle.std.proofs.Common.{◌≡◌, drop}
use Rattle.epic_audit.specs.Searches.{twin_at, find_map}
use Rattle.epic_audit.proofs.accepted.first_twin.Given as goal

abbrev pub invariant-loop-index : goal.invariant-loop-index
invariant-loop-index l =
    let h = l.ledger.history in
    find_map (twin_at l.topo l.packet l.hop h.emissions) (drop l.index h.events) ≡ find_map (twin_at l.topo l.packet l.hop h.emissions) h.events
