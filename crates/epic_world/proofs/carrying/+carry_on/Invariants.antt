use Rattle.epic_world.proofs.carrying.+carry_on.Given as goal

abbrev pub decreases-carry_on : goal.decreases-carry_on
decreases-carry_on l = l.most
