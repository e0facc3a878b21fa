use Rattle.std.proofs.Common.{sym, subst, ap}
use Rattle.epic_fields.specs.Issues.{IssuesKept}
use Rattle.epic_beacon.specs.Kinds.{KindsKept}
use Rattle.epic_beacon.specs.Store.{generation_in, issues_of}
use Rattle.epic_beacon.proofs.Keeping.{none_kept, none_kinds}
use Rattle.epic_beacon.proofs.Twins.{none_indexed}
use Rattle.epic_beacon.proofs.beacons.Beacons.new.Goals as goal

pub invariant_of-result : goal.invariant_of-result
invariant_of-result c = rw c.new.ensures.items (none_indexed _ c.new-2.ensures.empty)

pub returns-clause-empty : goal.returns-clause-empty
unfolding generation_in
returns-clause-empty c i = record { beacons = c.new.ensures.items i; generations = ap generation_in c.new-3.ensures.empty i }

pub returns-clause-kept : goal.returns-clause-kept
returns-clause-kept c t = subst (λ bs. IssuesKept t (issues_of bs)) (sym c.new.ensures.items) (none_kept t)

pub returns-clause-kinds : goal.returns-clause-kinds
returns-clause-kinds c t = subst (KindsKept t) (sym c.new.ensures.items) (none_kinds t)
