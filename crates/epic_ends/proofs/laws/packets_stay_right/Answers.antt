use Rattle.epic_ends.proofs.RightTags.{packets_stay_right}
use Rattle.epic_ends.proofs.laws.packets_stay_right.Goals as goal

pub returns : goal.returns
returns c = packets_stay_right
