use Rattle.epic_actors.proofs.SendersLast.{no_senders_stand, senders_stand_by_turns, senders_stand_by_arrivals, senders_stand_by_others, keys_stand_by_sends, keys_stand_by_fetches}
use Rattle.epic_actors.proofs.sources.senders_stand.Goals as goal

pub returns-clause-none : goal.returns-clause-none
returns-clause-none c = no_senders_stand

pub returns-clause-turns : goal.returns-clause-turns
returns-clause-turns c = senders_stand_by_turns

pub returns-clause-arrivals : goal.returns-clause-arrivals
returns-clause-arrivals c = senders_stand_by_arrivals

pub returns-clause-others : goal.returns-clause-others
returns-clause-others c = senders_stand_by_others

pub returns-clause-sends : goal.returns-clause-sends
returns-clause-sends c = keys_stand_by_sends

pub returns-clause-fetches : goal.returns-clause-fetches
returns-clause-fetches c = keys_stand_by_fetches
