use Rattle.epic_model.proofs.SoundPasses.{none_twice_by_emissions, turns_begin_well}
use Rattle.epic_model.proofs.laws.none_twice_by_emissions.Goals as goal

pub returns-clause-emissions : goal.returns-clause-emissions
returns-clause-emissions c = none_twice_by_emissions

pub returns-clause-begin : goal.returns-clause-begin
returns-clause-begin c = turns_begin_well
