use Rattle.epic_model.proofs.InvIssued.{inv_issues}
use Rattle.epic_model.proofs.InvKept.{inv_start, inv_later, inv_turns, inv_arrivals, inv_passes, inv_carries, inv_others}
use Rattle.epic_model.proofs.InvSent.{inv_sends}
use Rattle.epic_model.proofs.laws.inv_is_kept.Goals as goal

pub returns-clause-start : goal.returns-clause-start
returns-clause-start c = inv_start

pub returns-clause-later : goal.returns-clause-later
returns-clause-later c = inv_later

pub returns-clause-turns : goal.returns-clause-turns
returns-clause-turns c = inv_turns

pub returns-clause-arrivals : goal.returns-clause-arrivals
returns-clause-arrivals c = inv_arrivals

pub returns-clause-passes : goal.returns-clause-passes
returns-clause-passes c = inv_passes

pub returns-clause-carries : goal.returns-clause-carries
returns-clause-carries c = inv_carries

pub returns-clause-others : goal.returns-clause-others
returns-clause-others c = inv_others

pub returns-clause-issues : goal.returns-clause-issues
returns-clause-issues c = inv_issues

pub returns-clause-sends : goal.returns-clause-sends
returns-clause-sends c = inv_sends
