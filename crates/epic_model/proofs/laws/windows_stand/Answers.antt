use Rattle.epic_model.proofs.Standing.{windows_tell, windows_last, routers_stand, others_stand, hosts_stand, other_hosts_stand}
use Rattle.epic_model.proofs.laws.windows_stand.Goals as goal

pub returns-clause-tell : goal.returns-clause-tell
returns-clause-tell c = windows_tell

pub returns-clause-last : goal.returns-clause-last
returns-clause-last c = windows_last

pub returns-clause-routers : goal.returns-clause-routers
returns-clause-routers c = routers_stand

pub returns-clause-others : goal.returns-clause-others
returns-clause-others c = others_stand

pub returns-clause-hosts : goal.returns-clause-hosts
returns-clause-hosts c = hosts_stand

pub returns-clause-other_hosts : goal.returns-clause-other_hosts
returns-clause-other_hosts c = other_hosts_stand
