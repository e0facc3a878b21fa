use Rattle.epic_world.proofs.Runs as runs
use Rattle.epic_world.proofs.laws.runs_hold.Goals as goal

pub returns : goal.returns
returns c =
    let chains = c.whole_chains.ensures in
    runs.runs_hold c.worlds_go_on.ensures.start c.worlds_go_on.ensures.steps c.verdicts_are_right.ensures c.honest_carries_arrive.ensures.arrive
    c.honest_sends_arrive.ensures.twice chains.last_issued chains.all_issued c.ledgers.ensures.packets
