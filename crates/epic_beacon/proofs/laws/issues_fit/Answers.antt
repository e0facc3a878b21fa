use Rattle.epic_beacon.proofs.GoingOn.{issues_have_times, issues_stay_in_range}
use Rattle.epic_beacon.proofs.laws.issues_fit.Goals as goal

pub returns-clause-times : goal.returns-clause-times
returns-clause-times c = issues_have_times

pub returns-clause-ranges : goal.returns-clause-ranges
returns-clause-ranges c = issues_stay_in_range
