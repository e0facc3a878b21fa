use Rattle.epic_beacon.proofs.tests.hops_are_issued_or_refused.Goals as goal

pub originate-requires-clause-kept : goal.originate-requires-clause-kept
originate-requires-clause-kept g c = c.new-store.ensures.kept _
