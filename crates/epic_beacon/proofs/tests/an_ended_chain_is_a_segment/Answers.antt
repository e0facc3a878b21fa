use Rattle.epic_beacon.proofs.tests.an_ended_chain_is_a_segment.Goals as goal

pub originate-requires-clause-kept : goal.originate-requires-clause-kept
originate-requires-clause-kept g c = c.new-store.ensures.kept _
