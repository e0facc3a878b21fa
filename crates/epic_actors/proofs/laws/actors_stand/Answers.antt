use Rattle.epic_actors.proofs.Lasting.{none_stand, stand_as_time_passes, routers_stand_by_arrivals, hosts_stand_by_turns, stand_by_others, stand_by_sends}
use Rattle.epic_actors.proofs.laws.actors_stand.Goals as goal

pub returns-clause-none : goal.returns-clause-none
returns-clause-none c = none_stand

pub returns-clause-time : goal.returns-clause-time
returns-clause-time c = stand_as_time_passes

pub returns-clause-arrivals : goal.returns-clause-arrivals
returns-clause-arrivals c = routers_stand_by_arrivals

pub returns-clause-turns : goal.returns-clause-turns
returns-clause-turns c = hosts_stand_by_turns

pub returns-clause-others : goal.returns-clause-others
returns-clause-others c = stand_by_others

pub returns-clause-sends : goal.returns-clause-sends
returns-clause-sends c = stand_by_sends
