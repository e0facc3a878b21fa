use Rattle.epic_model.proofs.SoundPasses.{turns_are_sound, arrivals_are_sound}
use Rattle.epic_model.proofs.laws.passes_are_sound.Goals as goal

pub returns-clause-turns : goal.returns-clause-turns
returns-clause-turns c = turns_are_sound

pub returns-clause-arrivals : goal.returns-clause-arrivals
returns-clause-arrivals c = arrivals_are_sound
