use Rattle.epic_beacon.proofs.GoingOn.{issues_chain, issues_stay_kept, issues_tell}
use Rattle.epic_beacon.proofs.Told.{issues_in_beacons}
use Rattle.epic_beacon.proofs.laws.issues_go_on.Goals as goal

pub returns-clause-chains : goal.returns-clause-chains
returns-clause-chains c = issues_chain

pub returns-clause-kept : goal.returns-clause-kept
returns-clause-kept c = issues_stay_kept

pub returns-clause-told : goal.returns-clause-told
returns-clause-told c = issues_tell

pub returns-clause-issues : goal.returns-clause-issues
returns-clause-issues c = issues_in_beacons
