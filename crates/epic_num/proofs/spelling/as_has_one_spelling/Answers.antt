use Rattle.epic_num.proofs.OneSpelling.{as_from_spelling}
use Rattle.epic_num.proofs.spelling.as_has_one_spelling.Goals as goal

pub returns : goal.returns
returns c = as_from_spelling
