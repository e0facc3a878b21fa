use Rattle.std.proofs.Common.{◌≡◌, drop}
use Rattle.std.specs.Prelude.{find}
use Rattle.std.specs.List.{range_with_len}
use Rattle.epic_ledger.specs.Facts.{facts_of}
use Rattle.epic_audit.specs.Searches.{is_open}
use Rattle.epic_audit.proofs.uncovered.first_open_hop.Given as goal

abbrev pub invariant-loop-hop : goal.invariant-loop-hop
invariant-loop-hop l =
    let f = facts_of l.ledger.history in
    find (is_open f l.packet) (drop l.hop (range_with_len 0 l.hops)) ≡ find (is_open f l.packet) (range_with_len 0 l.hops)
