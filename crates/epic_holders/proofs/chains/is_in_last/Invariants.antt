use Rattle.std.proofs.Common.{◌≡◌, ◌-◌}
use Rattle.epic_num.specs.Chains.{last_names}
use Rattle.epic_ledger.specs.Facts.{facts_of}
use Rattle.epic_holders.specs.Holders.{is_in}
use Rattle.epic_holders.proofs.chains.is_in_last.Given as goal

abbrev pub invariant-loop-i : goal.invariant-loop-i
invariant-loop-i l =
    let issues = (facts_of l.ledger.history).issues in
    is_in l.x (last_names issues l.most l.number) ≡ is_in l.x (last_names issues (l.most - l.i) l.at)
