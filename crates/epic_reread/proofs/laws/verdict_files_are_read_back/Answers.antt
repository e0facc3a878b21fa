use Rattle.epic_reread.proofs.WholeFiles.{files_read}
use Rattle.epic_reread.proofs.laws.verdict_files_are_read_back.Goals as goal

pub returns : goal.returns
returns c = files_read
