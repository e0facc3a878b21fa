use Rattle.std.proofs.Common.{◌≡◌, drop, find}
use Rattle.std.specs.List.{range_with_len}
use Rattle.epic_ledger.specs.Facts.{facts_of}
use Rattle.epic_judge.specs.Sendings.{is_open, name_by}
use Rattle.epic_judge.proofs.dest_sent.first_open.Given as goal

abbrev pub invariant-loop-hop : goal.invariant-loop-hop
invariant-loop-hop l =
    let test = is_open (facts_of l.index.history) l.packet (name_by l.index.history l.event) in
    find test (drop l.hop (range_with_len 0 l.hops)) ≡ find test (range_with_len 0 l.hops)
