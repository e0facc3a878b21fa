use Rattle.epic_num.proofs.OneSpelling.{number_spelling}
use Rattle.epic_num.proofs.spelling.number_has_one_spelling.Goals as goal

pub returns : goal.returns
returns c = number_spelling
