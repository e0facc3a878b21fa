use Rattle.epic_num.proofs.OneSpelling.{host_from_spelling}
use Rattle.epic_num.proofs.spelling.host_has_one_spelling.Goals as goal

pub returns : goal.returns
returns c = host_from_spelling
