use Rattle.std.proofs.Common.{◌≡◌, ◌-◌}
use Rattle.epic_num.specs.Chains.{ancestor}
use Rattle.epic_ledger.specs.Facts.{facts_of}
use Rattle.epic_index.proofs.happened.ancestor.Given as goal

abbrev pub invariant-loop-i : goal.invariant-loop-i
invariant-loop-i l =
    let issues = (facts_of l.ledger.history).issues in
    ancestor issues l.number l.back ≡ ancestor issues l.at (l.back - l.i)
