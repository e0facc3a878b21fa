use Rattle.epic_bench.proofs.way.segment.Goals as goal

pub originate-requires-clause-kept : goal.originate-requires-clause-kept
originate-requires-clause-kept c = c.new-store.ensures.kept c.args.topo.now
