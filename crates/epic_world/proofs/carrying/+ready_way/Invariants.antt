use Rattle.epic_world.proofs.carrying.+ready_way.Given as goal

abbrev pub decreases-ready_way : goal.decreases-ready_way
decreases-ready_way l = l.most
