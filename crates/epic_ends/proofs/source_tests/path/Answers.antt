use Rattle.epic_ends.proofs.source_tests.path.Goals as goal

pub originate-requires-clause-kept : goal.originate-requires-clause-kept
originate-requires-clause-kept g c = c.new-beacons.ensures.kept c.args.topo.now
