use Rattle.std.proofs.Common.{◌≡◌, ◌-◌, map}
use Rattle.epic_num.specs.Chains.{ancestor}
use Rattle.epic_ledger.specs.Rows.{issue_in}
use Rattle.epic_ledger.proofs.log.ancestor_of.Given as goal

abbrev pub invariant-loop-i : goal.invariant-loop-i
invariant-loop-i l = ancestor (map issue_in l.issues) l.number l.back ≡ ancestor (map issue_in l.issues) l.at (l.back - l.i)
