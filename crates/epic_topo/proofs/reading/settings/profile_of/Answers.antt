-- The settings that are read are in their ranges.
use Rattle.epic_topo.proofs.Fits.{settings_fit}
use Rattle.epic_topo.proofs.reading.settings.profile_of.Goals as goal

pub returns-in_ok-table_in-in-Some-clause-ranges :
    goal.returns-in_ok-table_in-in-Some-clause-ranges
returns-in_ok-table_in-in-Some-clause-ranges c = rw c.settings.ensures (settings_fit _)

pub returns-in-None-clause-ranges : goal.returns-in-None-clause-ranges
returns-in-None-clause-ranges c = rw c.settings-in-None.ensures (settings_fit _)
