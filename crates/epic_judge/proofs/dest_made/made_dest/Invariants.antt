use Rattle.std.proofs.Common.{◌≡◌}
use Rattle.std.specs.List.{list_any}
use Rattle.epic_ledger.specs.Facts.{facts_of}
use Rattle.epic_judging.specs.Given.{makes_dest, made_dest}
use Rattle.epic_judge.specs.Walks.{sends_from}
use Rattle.epic_judge.proofs.dest_made.made_dest.Given as goal

abbrev pub invariant-loop-number : goal.invariant-loop-number
invariant-loop-number l =
    let f = facts_of l.index.history in
    list_any (makes_dest l.index.network f.issues l.dst l.src l.epoch l.message) (sends_from l.index.history l.number) ≡ made_dest l.index.network f l.dst l.src l.epoch l.message
